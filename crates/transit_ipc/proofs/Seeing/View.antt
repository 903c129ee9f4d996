-- The caches in which no message waits are those that are seen.
use Rattle.std.proofs.Common.{◌≡◌, ℕ, ◌+◌, ◌-◌, Bool, true, false, List, Option, Some, None, refl, ap, subst, ◌∙◌, arith}
use Rattle.std.specs.Prelude.{IsSome}
use Rattle.vm_model.proofs.Parts.Lists.{numbered_place}
use Rattle.interface_callers.proofs.Words.{Cache, Machine, is_mapped}
use Rattle.interface_callers.proofs.Hiding.{IsView}
use Rattle.transit_ipc.specs.Seen.{but_for}
use Rattle.transit_ipc.specs.Transit.{is_transit}
use Rattle.transit_ipc.specs.Tying.{AreTied}
use Rattle.transit_ipc.specs.declared.port.Port.{Port}
use Rattle.transit_ipc.proofs.Seeing.Seen.{hidden_cache, seen_cache, set_seen}

module _ (ports : List Port) where
  -- what is mapped is seen
  is_seen : (m : Machine) → AreTied m ports → (cache : ℕ) (b : Bool) → is_transit ports cache ≡ b → is_mapped m cache ≡ true → b ≡ false
  is_seen m tied cache false is mapped = refl
  is_seen m tied cache true is mapped = absurd (let wrong : IsSome (let none : Option Cache = None in none) = subst IsSome (hidden_cache m ports cache is) (tied.mapped cache mapped) in cc wrong)

  pub view : IsView (λ m. but_for (is_transit ports) 1 m.caches) (λ m n. is_transit ports n) (λ m. AreTied m ports)
  view = record {
    shown = λ m n e. seen_cache m ports n e;
    none = λ m n e. hidden_cache m ports n e;
    put = λ m n c d there same e. set_seen (is_transit ports) 1 m.caches (n - 1) (Some d) (ap (is_transit ports) (let some = (numbered_place m.caches n c there).0 in let s : 1 + (n - 1) ≡ n = omega (arith, some) in s) ∙ e);
    mapped = λ m tied n is. is_seen m tied n (is_transit ports n) refl is;
    actor = λ m. refl;
  }
