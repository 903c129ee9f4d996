use Rattle.std.proofs.Common.{◌≡◌, ℕ, ◌<◌, ◌/◌, ◌^◌, length, List, Option, None, refl, sym, ap, subst, ◌∙◌, arith, [], ◌∷◌, ◌++◌, get_or, set}
use Rattle.std.specs.Prelude.{bit_and}
use Rattle.std.proofs.lemmas.List.{get_or_read, get_or_append_left, length_push}
use Rattle.linear_index.specs.Hashes.{mask_for}
use Rattle.linear_index.specs.Buckets.{AreIn, head_of, IsHashed}
use Rattle.linear_index.specs.Chains.{Ends}
use Rattle.linear_index.specs.declared.cell.Cell.{Cell}
use Rattle.linear_index.proofs.Masks.{divided_below}
use Rattle.linear_index.proofs.Parts.{first_below}
use Rattle.linear_index.proofs.Buckets.{first_bucket, one_more}
use Rattle.linear_index.proofs.chains.add_bucket.Goals as goal

-- the first place of the bucket that is divided, as it is read
read : (heads wide : List (Option ℕ)) (cells : List Cell) (mask n more : ℕ) (first : Option ℕ) → IsHashed heads cells mask → length heads ≡ n → more ≡ mask_for mask n → wide ≡ heads ++ None ∷ [] → 0 < n → first ≡ get_or wide (bit_and n (more / 2)) first → (bit_and n (more / 2) < n) × (first ≡ head_of heads (bit_and n (more / 2)))
read heads wide cells mask n more first h is more_is wide_is some e =
    let b : ℕ = bit_and n (more / 2) in
    let all : AreIn n heads cells mask = subst (λ (k : ℕ). AreIn k heads cells mask) is h in
    let less : b < n = subst (λ (m : ℕ). bit_and n (m / 2) < n) (sym more_is) (divided_below mask n all.masked some) in
    (less, get_or_read wide b first (omega (arith, ap (λ (l : List (Option ℕ)). length l) wide_is, length_push heads None)) e None ∙ ap (λ (l : List (Option ℕ)). head_of l b) wide_is ∙ get_or_append_left heads (None ∷ []) None b (omega arith))

-- the buckets as they are written
written : (heads wide : List (Option ℕ)) (cells : List Cell) (mask b n : ℕ) (stay go one other : Option ℕ) → wide ≡ heads ++ None ∷ [] → one ≡ stay → other ≡ go → IsHashed (set (set (heads ++ None ∷ []) b stay) n go) cells mask → IsHashed (set (set wide b one) n other) cells mask
written heads wide cells mask b n stay go one other w e f h =
    subst (λ (l : List (Option ℕ)). IsHashed (set (set l b one) n other) cells mask) (sym w)
    (subst (λ (o : Option ℕ). IsHashed (set (set (heads ++ None ∷ []) b o) n other) cells mask) (sym e)
    (subst (λ (o : Option ℕ). IsHashed (set (set (heads ++ None ∷ []) b stay) n o) cells mask) (sym f) h))

pub returns-then-new-eq0-clause-hashed : goal.returns-then-new-eq0-clause-hashed
returns-then-new-eq0-clause-hashed c =
    let none : length c.args.heads.now.items ≡ 0 = omega arith in
    subst (λ (l : List (Option ℕ)). IsHashed l c.args.cells.now c.args.mask) (sym (c.push_reserved.ensures.items ∙ ap (λ (o : Option ℕ). c.args.heads.now.items ++ o ∷ []) c.of.ensures)) (first_bucket c.args.heads.now.items c.args.cells.now c.args.mask c.requires.hashed none)

pub divide-stay-requires : goal.divide-stay-requires
divide-stay-requires c =
    let n : length c.args.heads.now.items ≡ c.len-new.result = omega arith in
    let some : 0 < c.len-new.result = omega arith in
    let r = read c.args.heads.now.items c.push_reserved.new.self.items c.args.cells.now c.args.mask c.len-new.result c.mask_for_more-mask.result c.index.result.now c.requires.hashed n c.mask_for_more-mask.ensures (c.push_reserved.ensures.items ∙ ap (λ (o : Option ℕ). c.args.heads.now.items ++ o ∷ []) c.of.ensures) some c.index.ensures in
    subst (Ends c.args.cells.now) (sym (c.place.ensures ∙ r.1)) (c.requires.hashed.chains (bit_and c.len-new.result (c.mask_for_more-mask.result / 2)) (omega (arith, r.0))).ends

pub of-requires-2 : goal.of-requires-2
of-requires-2 c =
    let few : length c.divide-stay.new.cells < 2 ^ 32 = omega (arith, c.requires.few) in
    first_below c.divide-stay.new.cells c.divide-stay.result.0 (2 ^ 32) c.divide-stay.ensures.stay.ends few

pub of-requires-3 : goal.of-requires-3
of-requires-3 c =
    let few : length c.divide-stay.new.cells < 2 ^ 32 = omega (arith, c.requires.few) in
    first_below c.divide-stay.new.cells c.divide-stay.result.1 (2 ^ 32) c.divide-stay.ensures.go.ends few

pub returns-clause-hashed : goal.returns-clause-hashed
returns-clause-hashed c =
    let n : length c.args.heads.now.items ≡ c.len-new.result = omega arith in
    let some : 0 < c.len-new.result = omega arith in
    let b : ℕ = bit_and c.len-new.result (c.mask_for_more-mask.result / 2) in
    let r = read c.args.heads.now.items c.push_reserved.new.self.items c.args.cells.now c.args.mask c.len-new.result c.mask_for_more-mask.result c.index.result.now c.requires.hashed n c.mask_for_more-mask.ensures (c.push_reserved.ensures.items ∙ ap (λ (o : Option ℕ). c.args.heads.now.items ++ o ∷ []) c.of.ensures) some c.index.ensures in
    let h : AreIn c.len-new.result c.args.heads.now.items c.args.cells.now c.args.mask = subst (λ (k : ℕ). AreIn k c.args.heads.now.items c.args.cells.now c.args.mask) n c.requires.hashed in
    written c.args.heads.now.items c.push_reserved.new.self.items c.divide-stay.new.cells c.mask_for_more-mask.result b c.len-new.result c.divide-stay.result.0 c.divide-stay.result.1 c.of-2.result c.of-3.result (c.push_reserved.ensures.items ∙ ap (λ (o : Option ℕ). c.args.heads.now.items ++ o ∷ []) c.of.ensures) c.of-2.ensures c.of-3.ensures
    (one_more c.args.heads.now.items c.args.cells.now c.divide-stay.new.cells c.args.mask c.len-new.result c.mask_for_more-mask.result b c.place.result c.divide-stay.result.0 c.divide-stay.result.1 n c.mask_for_more-mask.ensures refl (c.place.ensures ∙ r.1) h some c.divide-stay.ensures.stay c.divide-stay.ensures.go c.divide-stay.ensures.others c.divide-stay.ensures.keys)
