-- Where a line feed stands.
use Rattle.std.proofs.Common.{◌≡◌, ◌≢◌, ◌+◌, ◌<◌, ℕ, List, [], ◌∷◌, ◌++◌, length, get_or, take, drop, sym, ap, ◌∙◌, append_assoc, arith}
use Rattle.std.proofs.lemmas.Bool.{eq-eqb, eqb-true}
use Rattle.std.proofs.lemmas.List.{drop_more, get_or_default, get_or-take, length-take, take-append-drop}
use Rattle.memchr.specs.Find.{NoneBefore, Nowhere, Passes, is_byte}
use Rattle.line_service.specs.Script.{HasNoFeed, IsFront}

-- a line feed stands there
abbrev IsFed : List ℕ → ℕ → Type 0
IsFed bytes k = Passes (is_byte 10) bytes k

no_feed : (bytes : List ℕ) (k d : ℕ) → k < length bytes → (IsFed bytes k → ⊥) → get_or bytes k d ≢ 10
no_feed bytes k d within none = λ e. none (eq-eqb (get_or bytes k 0) 10 (get_or_default bytes k 0 d within ∙ e))

-- the line that the first one ends
module _ (bytes : List ℕ) (end : ℕ) (first : NoneBefore (IsFed bytes) 0 (length bytes) end × IsFed bytes end) where
  pub plain_before : HasNoFeed (take end bytes)
  plain_before = λ k d h.
      let less : k < end = omega (arith, length-take end bytes) in
      rw (get_or-take end bytes k d less) (no_feed bytes k d (omega (arith, first.0.high)) (first.0.before k (omega arith) less))

  pub fed_front : IsFront (take end bytes ++ 10 ∷ []) bytes
  fed_front =
      let front : List ℕ = take end bytes in
      let back : List ℕ = drop (end + 1) bytes in
      let is : get_or bytes end 0 ≡ 10 = eqb-true (get_or bytes end 0) 10 first.1 in
      let rest : drop end bytes ≡ 10 ∷ back = drop_more bytes end 0 first.0.high ∙ ap (λ (b : ℕ). b ∷ back) is in
      record {
        back = back;
        parts = sym (append_assoc front (10 ∷ []) back ∙ ap (λ (l : List ℕ). front ++ l) (sym rest) ∙ take-append-drop end bytes);
      }

-- there is none
pub plain_all : (bytes : List ℕ) → Nowhere (IsFed bytes) 0 (length bytes) → HasNoFeed bytes
plain_all bytes none = λ k d h. no_feed bytes k d h (none k (omega arith) h)
