-- The last process is taken back.
use Rattle.std.proofs.Common.{◌≡◌, ◌⊎◌, inl, inr, ◌==◌, ℕ, ◌+◌, ◌≤◌, Bool, true, false, cond, List, [], ◌∷◌, ◌++◌, length, Option, Some, Vec, Global, refl, sym, ap, subst, ◌∙◌, arith}
use Rattle.std.specs.Prelude.{Err}
use Rattle.std.proofs.lemmas.Bool.Decides.{nat_tests}
use Rattle.std.proofs.lemmas.List.{length-append}
use Rattle.vm_model.proofs.Parts.Lists.{numbered_place}
use Rattle.interface_callers.proofs.Words.{GhostsOfGmi, GhostsOfMapper, Trouble, numbered}
use Rattle.mix_process.specs.Inner.{IsEnded, with_extra}
use Rattle.mix_process.specs.Starting.{IsTakenBack}
use Rattle.mix_process.specs.Seen.{processes_seen}
use Rattle.mix_process.specs.Tying.{AreAble, CanCall, none_spare}
use Rattle.mix_process.specs.declared.mix.Mix.{Mix}
use Rattle.mix_process.specs.declared.process.Process.{Process}
use Rattle.mix_process.proofs.Calling.CallAgain.{AreRenamed}
use Rattle.mix_process.proofs.Commands.Exit.{renamed_able}
use Rattle.mix_process.proofs.Ties.NewCache.{fresh_numbered, still_numbered, used, was_or_fresh}

-- a list has one end
pub one_end : {A : Type 0} (xs ys : List A) (x y : A) → xs ++ x ∷ [] ≡ ys ++ y ∷ [] → (xs ≡ ys) × (x ≡ y)
one_end [] [] x y e = (refl, cc e)
one_end [] (b ∷ ys) x y e = absurd (empty_end ys y (let rest : [] ≡ ys ++ y ∷ [] = cc e in rest))
  where
    empty_end : {A : Type 0} (ys : List A) (y : A) → [] ≡ ys ++ y ∷ [] → ⊥
    empty_end [] y e = absurd (cc e)
    empty_end (b ∷ ys) y e = absurd (cc e)
one_end (a ∷ xs) [] x y e = absurd (empty_end xs x (let rest : xs ++ x ∷ [] ≡ [] = cc e in sym rest))
  where
    empty_end : {A : Type 0} (ys : List A) (y : A) → [] ≡ ys ++ y ∷ [] → ⊥
    empty_end [] y e = absurd (cc e)
    empty_end (b ∷ ys) y e = absurd (cc e)
one_end (a ∷ xs) (b ∷ ys) x y e =
    let first : a ≡ b = cc e in
    let rest : xs ++ x ∷ [] ≡ ys ++ y ∷ [] = cc e in
    let both = one_end xs ys x y rest in
    ((λ i. first i ∷ both.0 i), both.1)

module _ (front : List (Option Process)) (p : Process) where
  abbrev pub whole : List (Option Process)
  whole = front ++ Some p ∷ []

  abbrev pub others : ℕ → Option Process
  others = with_extra p (numbered front)

  abbrev to : ℕ → ℕ
  to n = cond (n == 0) (length front + 1) n

  to_is : (n : ℕ) (b : Bool) (q : Process) → cond b (Some p) (numbered front n) ≡ Some q → numbered whole (cond b (length front + 1) n) ≡ Some q
  to_is n true q e = fresh_numbered front (Some p) ∙ e
  to_is n false q e = still_numbered front (Some p) n q e

  is_zero : (n : ℕ) → (n == 0) ≡ true → n ≡ 0
  is_zero n e = grind (arith, nat_tests)

  nonzero : (n : ℕ) → 1 ≤ n → (n == 0) ≡ false
  nonzero n h = grind (arith, nat_tests)

  to_apart : (n j : ℕ) (b c : Bool) (q r : Process) → (n == 0) ≡ b → (j == 0) ≡ c → cond b (Some p) (numbered front n) ≡ Some q → cond c (Some p) (numbered front j) ≡ Some r → cond b (length front + 1) n ≡ cond c (length front + 1) j → n ≡ j
  to_apart n j true true q r zn zj e f same = is_zero n zn ∙ sym (is_zero j zj)
  to_apart n j true false q r zn zj e f same = absurd (used front j r f (sym same))
  to_apart n j false true q r zn zj e f same = absurd (used front n q e same)
  to_apart n j false false q r zn zj e f same = same

  back : (n : ℕ) (q : Process) → (numbered front n ≡ Some q) ⊎ ((n ≡ length front + 1) × (Some p ≡ Some q)) → (k : ℕ) × (others k ≡ Some q) × (to k ≡ n)
  back n q (inl e) =
      let some : 1 ≤ n = (numbered_place front n q e).0 in
      (n, ap (λ (b : Bool). cond b (Some p) (numbered front n)) (nonzero n some) ∙ e, ap (λ (b : Bool). cond b (length front + 1) n) (nonzero n some))
  back n q (inr h) = (0, h.1, sym h.0)

  pub without_last : AreRenamed (numbered whole) others
  without_last = record {
    to = to;
    is = λ n q e. to_is n (n == 0) q e;
    apart = λ n j q r e f same. to_apart n j (n == 0) (j == 0) q r refl refl e f same;
    back = λ n q e. back n q (was_or_fresh front (Some p) n q e);
  }

module _ {Manager X Chooser : Type 0} (M : GhostsOfMapper X) (G : GhostsOfGmi Manager X Chooser) (old : Mix Manager) (mapper : X) (can : CanCall G old (M.held mapper) (M.page_bytes mapper))
    (p : Process) (table : Vec (Option Process) Global) (is : old.processes.items ≡ table.items ++ Some p ∷ []) where
  -- what the process's end needs
  pub last_able : AreAble G old.gmi old.images.items (M.held mapper) (M.page_bytes mapper) (length table.items) (with_extra p (numbered table.items)) none_spare
  last_able = renamed_able (length (table.items ++ Some p ∷ [])) (length table.items) (numbered (table.items ++ Some p ∷ [])) (with_extra p (numbered table.items)) (without_last table.items p) (omega (arith, length-append table.items (Some p ∷ [])))
      (subst (λ (xs : List (Option Process)). AreAble G old.gmi old.images.items (M.held mapper) (M.page_bytes mapper) (length xs) (numbered xs) none_spare) is can)

  pub taken_back : (trouble : Trouble) (after : X) (new : Mix Manager) → IsEnded M G mapper (record old { processes = table }) after new → IsTakenBack M G mapper old trouble (Err trouble) after new
  taken_back trouble after new e = record {
    is = refl;
    process = p;
    table = is ∙ ap (λ (x : Mix Manager). x.processes.items ++ Some p ∷ []) (sym e.same);
    images = ap (λ (x : Mix Manager). x.images) e.same;
    can = e.able;
    seen = ap (λ (x : Mix Manager). processes_seen (G.machine new.gmi (M.held after)) x.processes.items old.images.items) e.same ∙ e.seen ∙ ap (λ (x : Mix Manager). processes_seen (G.machine old.gmi (M.held mapper)) x.processes.items old.images.items) (sym e.same);
    made = e.made;
    alike = e.alike;
    segments = e.segments;
    rises = e.rises;
    rose = e.rose;
  }
