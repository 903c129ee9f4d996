-- Where a node stands in the map, and that it stands there alone after a change.
use Rattle.std.proofs.Common.{◌≡◌, ℕ, zero, suc, ◌∷◌, ◌+◌, ◌<◌, ◌≤◌, ◌==◌, Bool, true, false, refl, List, length, get_or, set, replicate, ◌^◌, Option, Some, None, sym, ap, subst, ◌∙◌, arith, inl, inr, length-set}
use Rattle.std.specs.Option.{IsSome}
use Rattle.std.specs.Prelude.{position}
use Rattle.std.specs.List.{position_or_len}
use Rattle.std.proofs.Math.ListN.{get_or-map}
use Rattle.std.proofs.lemmas.Bool.{cases_eq, cond_below}
use Rattle.std.proofs.lemmas.Bool.Decides.{Decides-eqb, nat_tests}
use Rattle.std.proofs.lemmas.List.{length-map, length-replicate, map-set}
use Rattle.std.proofs.lemmas.List.Sums.{position_or_len_is}
use Rattle.std.proofs.lemmas.List.Quantifiers.{position-Some}
use Rattle.vm_ids.specs.declared.numbers.NodeId.{NodeId}
use Rattle.vm_ids.proofs.Places.{same_number, other_number, bit, bit-le, bit_false, count-set, count_some, count-replicate_none, only_place}
use Rattle.probe_table.specs.Entries.{hash_of}
use Rattle.probe_table.specs.Hashes.{hash_of_key}
use Rattle.global_map.specs.Pairs.{is_node, node_of, bound_times, hash_at, hashes_of, IsIndexed, IsOneToOne}

pub the_node : (o : Option NodeId) (n : NodeId) → is_node n.0 o ≡ true → o ≡ Some n
the_node None n e = absurd (cc)
the_node (Some m) n e = let k : m.0 ≡ n.0 = (Decides-eqb m.0 n.0).0 e in ap (λ (x : ℕ). Some (record { 0 = x })) k

pub at_place : (map : List (Option NodeId)) (n : NodeId) (i : ℕ) → position (is_node n.0) map ≡ Some i → (i < length map) × (node_of map i ≡ Some n)
at_place map n i e =
    let p = position-Some (is_node n.0) map i None e in
    (p.0, the_node (node_of map i) n p.1)

-- a node that stands at a frame, and once at most, stands once
pub bound_one : (map : List (Option NodeId)) (n : NodeId) (frame : ℕ) → (frame < length map) × (node_of map frame ≡ Some n) → bound_times map n.0 ≤ 1 → bound_times map n.0 ≡ 1
bound_one map n frame at once = omega (arith, count_some (is_node n.0) map frame None at.0 (ap (is_node n.0) at.1 ∙ same_number n.0))

-- an unbound node is bound, at whatever frame
pub bound_once : (map : List (Option NodeId)) (f : ℕ) (n : NodeId) → IsOneToOne map → f < length map → bound_times map n.0 ≡ 0 → IsOneToOne (set map f (Some n))
bound_once map f n is within none = record {
  few = omega (arith, length-set map f (Some n), is.few);
  once = λ m. (
      let counts : bound_times (set map f (Some n)) m + bit (is_node m (get_or map f None)) ≡ bound_times map m + bit (n.0 == m) = count-set (is_node m) map f (Some n) None within in
      elim (cases_eq n.0 m) [
        | inl e ↦ (let same : bound_times map m ≡ 0 = ap (bound_times map) (sym e) ∙ none in omega (arith, bit-le (n.0 == m)))
        | inr d ↦ omega (arith, bit_false (n.0 == m) (other_number n.0 m d), is.once m)
      ]);
}

-- a frame is unbound
pub unbound_once : (map : List (Option NodeId)) (f : ℕ) → IsOneToOne map → f < length map → IsOneToOne (set map f None)
unbound_once map f is within = record {
  few = omega (arith, length-set map f None, is.few);
  once = λ m. (
      let counts : bound_times (set map f None) m + bit (is_node m (get_or map f None)) ≡ bound_times map m + 0 = count-set (is_node m) map f None None within in
      omega (arith, is.once m));
}

-- the table has the hash of the node that is bound to a frame
hash_is : (nodes : List (Option NodeId)) (table : List (Option ℕ)) (frame : ℕ) (o : Option NodeId) → table ≡ hashes_of nodes → node_of nodes frame ≡ o → hash_of table frame ≡ hash_at o
hash_is nodes table frame o e bound = ap (λ (xs : List (Option ℕ)). hash_of xs frame) e ∙ get_or-map hash_at nodes frame None ∙ ap hash_at bound

pub hash_bound : (nodes : List (Option NodeId)) (table : List (Option ℕ)) (frame : ℕ) (n : NodeId) → table ≡ hashes_of nodes → node_of nodes frame ≡ Some n → hash_of table frame ≡ Some (hash_of_key n.0)
hash_bound nodes table frame n e bound = hash_is nodes table frame (Some n) e bound

pub hash_free : (nodes : List (Option NodeId)) (table : List (Option ℕ)) (frame : ℕ) → table ≡ hashes_of nodes → node_of nodes frame ≡ None → hash_of table frame ≡ None
hash_free nodes table frame e free = hash_is nodes table frame None e free

pub has_hash : (nodes : List (Option NodeId)) (table : List (Option ℕ)) (frame : ℕ) (n : NodeId) → table ≡ hashes_of nodes → node_of nodes frame ≡ Some n → IsSome (hash_of table frame)
has_hash nodes table frame n e bound = subst IsSome (sym (hash_bound nodes table frame n e bound)) refl

-- there are as many numbers in the table as frames
pub table_length : (nodes : List (Option NodeId)) (table : List (Option ℕ)) → table ≡ hashes_of nodes → length table ≡ length nodes
table_length nodes table e = ap (λ (xs : List (Option ℕ)). length xs) e ∙ length-map nodes hash_at

-- a node that stands at a frame, and once at most, stands first there
pub position_at : (nodes : List (Option NodeId)) (n : NodeId) (frame : ℕ) → frame < length nodes → is_node n.0 (node_of nodes frame) ≡ true → bound_times nodes n.0 ≤ 1 → position (is_node n.0) nodes ≡ Some frame
position_at nodes n frame within passes once =
    let first : position_or_len (is_node n.0) nodes ≡ frame = only_place (is_node n.0) nodes frame None (omega (arith, count_some (is_node n.0) nodes frame None within passes)) within passes in
    let there : position_or_len (is_node n.0) nodes < length nodes = omega arith in
    sym (cond_below (position_or_len (is_node n.0) nodes) (length nodes) (Some (position_or_len (is_node n.0) nodes)) None there) ∙ ap (λ (k : ℕ). Some k) first

fails : (n : ℕ) (nodes : List (Option NodeId)) (frame : ℕ) (t : Bool) → is_node n (node_of nodes frame) ≡ t → (is_node n (node_of nodes frame) ≡ true → ⊥) → is_node n (node_of nodes frame) ≡ false
fails n nodes frame true e none = absurd (none e)
fails n nodes frame false e none = e

-- a node that stands nowhere has no position
pub no_position : (nodes : List (Option NodeId)) (n : NodeId) → ((frame : ℕ) → is_node n.0 (node_of nodes frame) ≡ true → ⊥) → position (is_node n.0) nodes ≡ None
no_position nodes n none =
    let past : position_or_len (is_node n.0) nodes ≡ length nodes
    = position_or_len_is (is_node n.0) nodes (length nodes) None (omega arith) (λ k below. fails n.0 nodes k (is_node n.0 (node_of nodes k)) refl (none k)) (λ h. absurd (omega arith)) in
    grind (arith, nat_tests)

-- an unbound node is bound, in the table too
pub bound_indexed : (nodes : List (Option NodeId)) (table table' : List (Option ℕ)) (f : ℕ) (n : NodeId) → IsIndexed nodes table → f < length nodes → bound_times nodes n.0 ≡ 0 → table' ≡ set table f (Some (hash_of_key n.0)) → IsIndexed (set nodes f (Some n)) table'
bound_indexed nodes table table' f n is within none e = record {
  one_to_one = bound_once nodes f n is.one_to_one within none;
  hashes = e ∙ ap (λ (xs : List (Option ℕ)). set xs f (Some (hash_of_key n.0))) is.hashes ∙ sym (map-set hash_at nodes f (Some n));
}

-- a frame is unbound, in the table too
pub unbound_indexed : (nodes : List (Option NodeId)) (table table' : List (Option ℕ)) (f : ℕ) → IsIndexed nodes table → f < length nodes → table' ≡ set table f None → IsIndexed (set nodes f None) table'
unbound_indexed nodes table table' f is within e = record {
  one_to_one = unbound_once nodes f is.one_to_one within;
  hashes = e ∙ ap (λ (xs : List (Option ℕ)). set xs f None) is.hashes ∙ sym (map-set hash_at nodes f None);
}

none_hashes : (frames : ℕ) → hashes_of (replicate frames None) ≡ replicate frames None
none_hashes zero = refl
none_hashes (suc n) = ap (λ (xs : List (Option ℕ)). None ∷ xs) (none_hashes n)

-- with no node bound, no number is entered
pub none_indexed : (frames : ℕ) → frames ≤ 2 ^ 16 → IsIndexed (replicate frames None) (replicate frames None)
none_indexed frames few = record {
  one_to_one = record {
    few = omega (arith, length-replicate {A = Option NodeId} frames None);
    once = λ node. omega (arith, count-replicate_none (is_node node) frames None refl);
  };
  hashes = sym (none_hashes frames);
}
