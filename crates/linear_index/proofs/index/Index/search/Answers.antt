use Rattle.std.proofs.Common.{◌≡◌, ◌≢◌, ℕ, ◌<◌, List, length, Option, None, sym, ap, subst, ◌∙◌, arith}
use Rattle.std.specs.Prelude.{IfNone, IfSome}
use Rattle.std.proofs.lemmas.Bool.{eqb-false, eqb-true}
use Rattle.std.proofs.lemmas.List.{get_or_read}
use Rattle.linear_index.specs.declared.cell.Cell.{Cell}
use Rattle.linear_index.specs.Hashes.{bucket_of, hash_of}
use Rattle.linear_index.specs.Buckets.{head_of, IsHashed}
use Rattle.linear_index.specs.Chains.{cell_at, Ends, IsIn}
use Rattle.linear_index.proofs.Masks.{bucket_below}
use Rattle.linear_index.proofs.Placed.{known}
use Rattle.linear_index.proofs.Buckets.{found_is, none_found}
use Rattle.linear_index.proofs.index.Index.search.Goals as goal

-- the bucket of the key
bucket : (heads : List (Option ℕ)) (cells : List Cell) (mask key b n hash : ℕ) → IsHashed heads cells mask → 0 < length heads → n ≡ length heads → hash ≡ hash_of key → b ≡ bucket_of mask n hash → (b ≡ bucket_of mask (length heads) (hash_of key)) × (b < length heads)
bucket heads cells mask key b n hash h some is hash_is e =
    let hashed : b ≡ bucket_of mask (length heads) (hash_of key) = e ∙ ap (λ (k : ℕ). bucket_of mask k hash) is ∙ ap (bucket_of mask (length heads)) hash_is in
    (hashed, subst (λ (k : ℕ). k < length heads) (sym hashed) (bucket_below mask (length heads) (hash_of key) h.masked some))

pub returns-then-is_empty : goal.returns-then-is_empty
returns-then-is_empty c =
    let m = known c.self.inside.cells.items c.self.inside.room c.args.self.now c.self.invariant.hashed.once c.self.view_is in
    let none = eqb-true _ 0 (sym c.is_empty.ensures ∙ c.if-is_empty.true) in
    none_found c.self.inside.heads.items c.self.inside.cells.items c.self.inside.mask c.args.key c.args.self.now.places c.self.invariant.hashed m (omega (arith, none))

pub index-requires : goal.index-requires
index-requires c =
    let some = eqb-false _ 0 (sym c.is_empty.ensures ∙ c.if-is_empty.false) in
    let b = bucket c.self.inside.heads.items c.self.inside.cells.items c.self.inside.mask c.args.key c.bucket_of_hash-bucket.result c.len.result c.hash.result c.self.invariant.hashed (omega (arith, some)) (omega arith) c.hash.ensures c.bucket_of_hash-bucket.ensures in
    omega (arith, b.1)

pub place_in-requires : goal.place_in-requires
place_in-requires c =
    let some = eqb-false _ 0 (sym c.is_empty.ensures ∙ c.if-is_empty.false) in
    let b = bucket c.self.inside.heads.items c.self.inside.cells.items c.self.inside.mask c.args.key c.bucket_of_hash-bucket.result c.len.result c.hash.result c.self.invariant.hashed (omega (arith, some)) (omega arith) c.hash.ensures c.bucket_of_hash-bucket.ensures in
    let first : c.place.result ≡ head_of c.self.inside.heads.items c.bucket_of_hash-bucket.result = c.place.ensures ∙ get_or_read c.self.inside.heads.items c.bucket_of_hash-bucket.result c.index.result.now b.1 c.index.ensures None in
    subst (λ (l : List Cell). Ends l c.place.result) (sym c.deref.ensures.value) (subst (Ends c.self.inside.cells.items) (sym first) (c.self.invariant.hashed.chains c.bucket_of_hash-bucket.result b.1).ends)

pub returns : goal.returns
returns c =
    let m = known c.self.inside.cells.items c.self.inside.room c.args.self.now c.self.invariant.hashed.once c.self.view_is in
    let some = eqb-false _ 0 (sym c.is_empty.ensures ∙ c.if-is_empty.false) in
    let b = bucket c.self.inside.heads.items c.self.inside.cells.items c.self.inside.mask c.args.key c.bucket_of_hash-bucket.result c.len.result c.hash.result c.self.invariant.hashed (omega (arith, some)) (omega arith) c.hash.ensures c.bucket_of_hash-bucket.ensures in
    let first : c.place.result ≡ head_of c.self.inside.heads.items c.bucket_of_hash-bucket.result = c.place.ensures ∙ get_or_read c.self.inside.heads.items c.bucket_of_hash-bucket.result c.index.result.now b.1 c.index.ensures None in
    let Found : List Cell → Option ℕ → Type 0 = λ l o. IfSome c.place_in.result (λ p. IsIn l o p × ((cell_at l p).key ≡ c.args.key)) in
    let Absent : List Cell → Option ℕ → Type 0 = λ l o. IfNone c.place_in.result ((p : ℕ) → IsIn l o p → (cell_at l p).key ≢ c.args.key) in
    found_is c.self.inside.heads.items c.self.inside.cells.items c.self.inside.mask c.args.key c.bucket_of_hash-bucket.result c.args.self.now.places c.place_in.result c.self.invariant.hashed m b.0
    (subst (Found c.self.inside.cells.items) first (subst (λ (l : List Cell). Found l c.place.result) c.deref.ensures.value c.place_in.ensures.found))
    (subst (Absent c.self.inside.cells.items) first (subst (λ (l : List Cell). Absent l c.place.result) c.deref.ensures.value c.place_in.ensures.absent))
