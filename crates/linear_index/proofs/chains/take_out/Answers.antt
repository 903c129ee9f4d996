use Rattle.std.proofs.Common.{rules, ◌≡◌, ℕ, ◌<◌, ◌^◌, length, Option, None, refl, sym, ap, subst, ◌∙◌, arith}
use Rattle.std.proofs.lemmas.List.{get_or_read}
use Rattle.linear_index.specs.Hashes.{bucket_of, hash_of}
use Rattle.linear_index.specs.Buckets.{head_of}
use Rattle.linear_index.specs.Chains.{cell_at, IsIn}
use Rattle.linear_index.specs.declared.cell.Link.TheVariants.{Free}
use Rattle.linear_index.proofs.Masks.{bucket_below}
use Rattle.linear_index.proofs.Parts.{first_below}
use Rattle.linear_index.proofs.Buckets.{headed, some_in, took, written}
use Rattle.linear_index.proofs.chains.take_out.Goals as goal

pub offset_bounds-heads-bucket : goal.offset_bounds-heads-bucket
offset_bounds-heads-bucket c =
    let less : c.bucket_of_hash-bucket.result < length c.args.heads.now = rw c.bucket_of_hash-bucket.ensures (bucket_below c.args.mask (length c.args.heads.now) c.hash.result c.requires.hashed.masked (c.requires.hashed.some c.args.place c.args.key c.requires.entered)) in
    search rules

pub bounds-heads-bucket : goal.bounds-heads-bucket
bounds-heads-bucket c = rw c.bucket_of_hash-bucket.ensures (bucket_below c.args.mask (length c.args.heads.now) c.hash.result c.requires.hashed.masked (c.requires.hashed.some c.args.place c.args.key c.requires.entered))

pub offset_bounds-heads-bucket-2 : goal.offset_bounds-heads-bucket-2
offset_bounds-heads-bucket-2 c =
    let less : c.bucket_of_hash-bucket.result < length c.args.heads.now = rw c.bucket_of_hash-bucket.ensures (bucket_below c.args.mask (length c.args.heads.now) c.hash.result c.requires.hashed.masked (c.requires.hashed.some c.args.place c.args.key c.requires.entered)) in
    search rules

pub bounds-heads-bucket-2 : goal.bounds-heads-bucket-2
bounds-heads-bucket-2 c = rw c.bucket_of_hash-bucket.ensures (bucket_below c.args.mask (length c.args.heads.now) c.hash.result c.requires.hashed.masked (c.requires.hashed.some c.args.place c.args.key c.requires.entered))

pub unwrap-first-requires : goal.unwrap-first-requires
unwrap-first-requires c =
    let hashed : c.bucket_of_hash-bucket.result ≡ bucket_of c.args.mask (length c.args.heads.now) (hash_of c.args.key) = c.bucket_of_hash-bucket.ensures ∙ ap (bucket_of c.args.mask (length c.args.heads.now)) c.hash.ensures in
    let less : c.bucket_of_hash-bucket.result < length c.args.heads.now = rw c.bucket_of_hash-bucket.ensures (bucket_below c.args.mask (length c.args.heads.now) c.hash.result c.requires.hashed.masked (c.requires.hashed.some c.args.place c.args.key c.requires.entered)) in
    let first : c.place.result ≡ head_of c.args.heads.now c.bucket_of_hash-bucket.result = c.place.ensures ∙ get_or_read c.args.heads.now c.bucket_of_hash-bucket.result c.index-heads-bucket.result less c.index-heads-bucket.is None in
    some_in c.args.cells.now c.place.result c.args.place (subst (λ (o : Option ℕ). IsIn c.args.cells.now o c.args.place) (sym first) (headed c.args.heads.now c.args.cells.now c.args.mask c.args.place c.args.key c.bucket_of_hash-bucket.result c.requires.hashed c.requires.entered hashed))

pub without-requires : goal.without-requires
without-requires c =
    let hashed : c.bucket_of_hash-bucket.result ≡ bucket_of c.args.mask (length c.args.heads.now) (hash_of c.args.key) = c.bucket_of_hash-bucket.ensures ∙ ap (bucket_of c.args.mask (length c.args.heads.now)) c.hash.ensures in
    let less : c.bucket_of_hash-bucket.result < length c.args.heads.now = rw c.bucket_of_hash-bucket.ensures (bucket_below c.args.mask (length c.args.heads.now) c.hash.result c.requires.hashed.masked (c.requires.hashed.some c.args.place c.args.key c.requires.entered)) in
    let first : c.place.result ≡ head_of c.args.heads.now c.bucket_of_hash-bucket.result = c.place.ensures ∙ get_or_read c.args.heads.now c.bucket_of_hash-bucket.result c.index-heads-bucket.result less c.index-heads-bucket.is None in
    subst (λ (o : Option ℕ). IsIn c.args.cells.now o c.args.place) (sym first ∙ c.unwrap-first.ensures) (headed c.args.heads.now c.args.cells.now c.args.mask c.args.place c.args.key c.bucket_of_hash-bucket.result c.requires.hashed c.requires.entered hashed)

pub of-requires : goal.of-requires
of-requires c =
    let few : length c.without.new.cells < 2 ^ 32 = omega (arith, c.requires.few) in
    first_below c.without.new.cells c.without.result (2 ^ 32) c.without.ensures.rest.ends few

pub returns-clause-hashed : goal.returns-clause-hashed
returns-clause-hashed c =
    let hashed : c.bucket_of_hash-bucket.result ≡ bucket_of c.args.mask (length c.args.heads.now) (hash_of c.args.key) = c.bucket_of_hash-bucket.ensures ∙ ap (bucket_of c.args.mask (length c.args.heads.now)) c.hash.ensures in
    let less : c.bucket_of_hash-bucket.result < length c.args.heads.now = rw c.bucket_of_hash-bucket.ensures (bucket_below c.args.mask (length c.args.heads.now) c.hash.result c.requires.hashed.masked (c.requires.hashed.some c.args.place c.args.key c.requires.entered)) in
    let first : c.place.result ≡ head_of c.args.heads.now c.bucket_of_hash-bucket.result = c.place.ensures ∙ get_or_read c.args.heads.now c.bucket_of_hash-bucket.result c.index-heads-bucket.result less c.index-heads-bucket.is None in
    written c.args.heads.now _ c.args.mask c.bucket_of_hash-bucket.result c.without.result c.of.result c.of.ensures
    (took c.args.heads.now c.args.cells.now c.without.new.cells c.args.mask c.args.key c.args.place c.bucket_of_hash-bucket.result c.unwrap-first.result c.without.result (record { key = (cell_at c.without.new.cells c.args.place).key; link = Free }) c.requires.hashed c.requires.entered hashed (sym first ∙ c.unwrap-first.ensures) c.without.ensures.rest c.without.ensures.others c.without.ensures.keys refl)
