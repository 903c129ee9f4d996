use Rattle.std.proofs.Common.{rules, ◌≡◌, ◌<◌, length, Some, None, refl, ap, ◌∙◌}
use Rattle.std.proofs.lemmas.List.{get_or_read}
use Rattle.linear_index.specs.Hashes.{bucket_of, hash_of}
use Rattle.linear_index.specs.Buckets.{head_of}
use Rattle.linear_index.specs.Chains.{link_to}
use Rattle.linear_index.proofs.Masks.{bucket_below}
use Rattle.linear_index.proofs.Buckets.{put, written}
use Rattle.linear_index.proofs.chains.put_in.Goals as goal

pub offset_bounds-heads-bucket : goal.offset_bounds-heads-bucket
offset_bounds-heads-bucket c =
    let less : c.bucket_of_hash-bucket.result < length c.args.heads.now = rw c.bucket_of_hash-bucket.ensures (bucket_below c.args.mask (length c.args.heads.now) c.hash.result c.requires.hashed.masked c.requires.bucket) in
    search rules

pub bounds-heads-bucket : goal.bounds-heads-bucket
bounds-heads-bucket c = rw c.bucket_of_hash-bucket.ensures (bucket_below c.args.mask (length c.args.heads.now) c.hash.result c.requires.hashed.masked c.requires.bucket)

pub offset_bounds-heads-bucket-2 : goal.offset_bounds-heads-bucket-2
offset_bounds-heads-bucket-2 c =
    let less : c.bucket_of_hash-bucket.result < length c.args.heads.now = rw c.bucket_of_hash-bucket.ensures (bucket_below c.args.mask (length c.args.heads.now) c.hash.result c.requires.hashed.masked c.requires.bucket) in
    search rules

pub bounds-heads-bucket-2 : goal.bounds-heads-bucket-2
bounds-heads-bucket-2 c = rw c.bucket_of_hash-bucket.ensures (bucket_below c.args.mask (length c.args.heads.now) c.hash.result c.requires.hashed.masked c.requires.bucket)

pub returns-clause-hashed : goal.returns-clause-hashed
returns-clause-hashed c =
    let hashed : c.bucket_of_hash-bucket.result ≡ bucket_of c.args.mask (length c.args.heads.now) (hash_of c.args.key) = c.bucket_of_hash-bucket.ensures ∙ ap (bucket_of c.args.mask (length c.args.heads.now)) c.hash.ensures in
    let less : c.bucket_of_hash-bucket.result < length c.args.heads.now = rw c.bucket_of_hash-bucket.ensures (bucket_below c.args.mask (length c.args.heads.now) c.hash.result c.requires.hashed.masked c.requires.bucket) in
    let first : c.place.result ≡ head_of c.args.heads.now c.bucket_of_hash-bucket.result = c.place.ensures ∙ get_or_read c.args.heads.now c.bucket_of_hash-bucket.result c.index-heads-bucket.result less c.index-heads-bucket.is None in
    written c.args.heads.now _ c.args.mask c.bucket_of_hash-bucket.result (Some c.args.place) c.of.result c.of.ensures
    (put c.args.heads.now c.args.cells.now c.args.mask c.args.key c.args.place c.bucket_of_hash-bucket.result (record { key = c.args.key; link = c.to.result }) c.requires.hashed c.requires.bucket c.requires.place c.requires.free c.requires.new_key hashed refl (c.to.ensures ∙ ap link_to first))
