-- Ports over a manager without caches.
use Rattle.std.proofs.Common.{◌≡◌, ℕ, false, true, List, [], Option, Some, None, sym, ap, subst, inl, inr, ◌∙◌, arith}
use Rattle.std.specs.Prelude.{sum_by}
use Rattle.vm_model.proofs.Parts.ListParts.{at_some, at_zero, zero_or}
use Rattle.interface_callers.proofs.Words.{Cache, GhostsOfGmi, Held, Machine, cache_of, is_mapped, numbered, pages_in}
use Rattle.interface_callers.proofs.Blanks.{blank_bare}
use Rattle.transit_ipc.specs.Tying.{AreAble, AreTied, IsBare}
use Rattle.transit_ipc.specs.declared.port.Port.{Port}

none_there : (n : ℕ) → numbered (let none : List (Option Cache) = [] in none) n ≡ None
none_there n = elim (zero_or n) [
  | inl e ↦ at_zero [] n e
  | inr some ↦ at_some [] n some
]

module _ (m : Machine) (bare : m.caches ≡ []) where
  no_cache : (n : ℕ) → cache_of m n ≡ None
  no_cache n = ap (λ (caches : List (Option Cache)). numbered caches n) bare ∙ none_there n

  tied_bare : ((cache : ℕ) → is_mapped m cache ≡ false) → AreTied m []
  tied_bare unmapped = record {
    messages = λ i j x w. absurd (cc w.there);
    apart = λ i j k l x y v w same. absurd (cc v.there);
    mapped = λ n is. absurd (let wrong : false ≡ true = sym (unmapped n) ∙ is in cc wrong);
    temporary = λ n c e. absurd (let wrong : None ≡ Some c = sym (no_cache n) ∙ e in cc wrong);
    deep = λ i p e. absurd (cc e);
    roomy = λ i p e. absurd (cc e);
    few = omega arith;
  }

-- they can be called
pub able_bare : {Manager Mapper Chooser : Type 0} (G : GhostsOfGmi Manager Mapper Chooser) (gmi : Manager) (told : Option Held) (page_bytes : Option ℕ) (ports : List Port) → ports ≡ []
    → IsBare G gmi told page_bytes → AreAble G gmi told page_bytes ports
able_bare G gmi told page_bytes ports none bare =
    let m : Machine = G.machine gmi told in
    record {
      valid = bare.valid;
      unlimited = bare.unlimited;
      fits = bare.fits;
      live = omega (arith, ap (λ (caches : List (Option Cache)). sum_by pages_in caches) bare.caches);
      tied = subst (AreTied m) (sym none) (tied_bare m bare.caches bare.unmapped);
      blank = blank_bare told m bare.caches;
    }
