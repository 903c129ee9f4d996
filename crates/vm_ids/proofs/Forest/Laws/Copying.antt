-- The laws of the commands that make pages and copy them.
use Rattle.std.proofs.Common.{◌≡◌, ◌≢◌, List, [], ◌∷◌, Bool, true, false, not, cond, ◌||◌, ◌⊎◌, Option, Some, None, is_some, refl, sym, ap, subst, ◌∙◌, inl, inr, arith}
use Rattle.std.specs.Option.{option_or}
use Rattle.vm_ids.specs.declared.node_name.NodeName.{NodeName}
use Rattle.vm_ids.specs.Forest.Names.{Working, same}
use Rattle.vm_ids.proofs.Forest.Names.{name_cases, same_apart}
use Rattle.vm_ids.specs.Forest.NameLists.{◌∈◌}
use Rattle.vm_ids.specs.Forest.NameMap.{get, empty}
use Rattle.vm_ids.specs.Forest.Nodes.{Forest, node, no_forest, IsNode, is_live}
use Rattle.vm_ids.specs.Forest.Shape.{IsConsistent}
use Rattle.vm_ids.specs.Forest.Reading.{value_of}
use Rattle.vm_ids.specs.Forest.Rules.{copy_page}
use Rattle.vm_ids.specs.Forest.Saving.{saved}
use Rattle.vm_ids.specs.Forest.Commands.{firsts, seconds, make, copy_pages}
use Rattle.vm_ids.specs.Forest.Laws.Linking.{ArePages}
use Rattle.vm_ids.specs.Forest.Laws.Commands.{source_of, given, is_in, ArePagesOnce, AreFresh, CanCopy, NoForestIsConsistent, NoForestIsBounded, MakeKeepsConsistency, MakeKeepsBound, MakeGivesPages, CopyKeepsConsistency, CopyCopies, CopyBounds, CopySettles, CopyCountsSaves}
use Rattle.vm_ids.proofs.Forest.NodesAfter.{put-IsNode, IsNode-put_cases}
use Rattle.vm_ids.proofs.Forest.Paths.{IsNode-value}
use Rattle.vm_ids.proofs.Forest.Counters.{settle-counters, copy_pages-copies}
use Rattle.vm_ids.proofs.Forest.Agreeing.{value_none, IsNode-equal, bounded_from, live_count-le, working_count-le}
use Rattle.vm_ids.proofs.Forest.OneDetached.{fresh-consistent, fresh-value}
use Rattle.vm_ids.proofs.Forest.OnePage.{copy_page-consistent, copy_page-value}
use Rattle.vm_ids.proofs.Forest.Saving.{saved-consistent, saved-values}
use Rattle.vm_ids.proofs.Forest.Laws.Settling.{settle_keeps_consistency, settle_keeps_live_values, settle_settles, settled_is_bounded}

-- what stands in lists of pairs
pub source_outside : (es : List (NodeName × NodeName)) (y : NodeName) → (y ∈ firsts es → ⊥) → source_of es y ≡ y
source_outside [] y out = refl
source_outside (e ∷ es) y out = ap (λ (t : Bool). cond t e.1 (source_of es y)) (same_apart y e.0 (λ q. out (inl q))) ∙ source_outside es y (λ i. out (inr i))

pub source_cases : (es : List (NodeName × NodeName)) (y : NodeName) → (source_of es y ≡ y) ⊎ (source_of es y ∈ seconds es)
source_cases [] y = inl refl
source_cases (e ∷ es) y = go (same y e.0) (source_cases es y)
  where
    go : (b : Bool) → (source_of es y ≡ y) ⊎ (source_of es y ∈ seconds es) → (cond b e.1 (source_of es y) ≡ y) ⊎ (cond b e.1 (source_of es y) ∈ (e.1 ∷ seconds es))
    go true more = inr (inl refl)
    go false more = elim more [ inl q ↦ inl q | inr i ↦ inr (inr i) ]

pub given_outside : {P : Type 0} (es : List (NodeName × P)) (y : NodeName) → (y ∈ firsts es → ⊥) → given es y ≡ None
given_outside [] y out = refl
given_outside (e ∷ es) y out = ap (λ (t : Bool). cond t (Some e.1) (given es y)) (same_apart y e.0 (λ q. out (inl q))) ∙ given_outside es y (λ i. out (inr i))

pub outside_is_in : (xs : List NodeName) (y : NodeName) → (y ∈ xs → ⊥) → is_in y xs ≡ false
outside_is_in [] y out = refl
outside_is_in (x ∷ xs) y out = ap (λ b. b || is_in y xs) (same_apart y x (λ q. out (inl q))) ∙ outside_is_in xs y (λ i. out (inr i))

-- the invariants hold at the beginning
pub none : (P : Type 0) (x : NodeName) → IsNode (no_forest {P = P}) x → ⊥
unfolding get empty
none P x is = cc is

pub no_forest_is_consistent : (P : Type 0) → NoForestIsConsistent P
unfolding node get empty
no_forest_is_consistent P = record {
  shaped = record {
    linked = record {
      order = (λ x. 0, λ x p up. absurd (cc up));
      few = λ x. omega arith;
      stub_bare = λ x p h. refl;
      tree_links = λ x p. (λ i. absurd i, λ h. absurd (cc h));
      stub_links = λ x p. (λ i. absurd i, λ h. absurd (cc h));
      once = λ x. (tt, tt);
    };
    inherits = λ x is. absurd (none P x is);
  };
  counted = λ k is. absurd (none P (Working k) is);
}

pub no_forest_is_bounded : (P : Type 0) → NoForestIsBounded P
unfolding empty
no_forest_is_bounded P = inr (refl, refl)

module _ {P : Type 0} where
  -- make
  make-facts : (pages : List (NodeName × P)) (f : Forest P) → IsConsistent f → AreFresh f pages → IsConsistent (make pages f) × ((y : NodeName) → value_of (make pages f) y ≡ option_or (given pages y) (value_of f y))
  make-facts [] f c fresh = (c, λ y. refl)
  make-facts (e ∷ es) f c fresh =
      let more : AreFresh f es = record { once = fresh.once.1; fresh = λ x i. fresh.fresh x (inr i) } in
      let at = fresh.fresh e.0 (inl refl) in
      let rest = make-facts es f c more in
      let out : IsNode (make es f) e.0 → ⊥ = λ is. cc ((IsNode-value (make es f) rest.0.shaped e.0).0 is, ap is_some (rest.1 e.0), ap (λ o. is_some (option_or o (value_of f e.0))) (given_outside es e.0 fresh.once.0), ap is_some (value_none f e.0 at.0)) in (
        fresh-consistent (make es f) rest.0 e.0 out at.1 e.1,
        λ y. fresh-value (make es f) rest.0 e.0 out at.1 e.1 y ∙ under e.1 (given es y) _ (value_of f y) (same y e.0) (rest.1 y),
      )
    where
      under : (v : P) (o u w : Option P) (b : Bool) → u ≡ option_or o w → cond b (Some v) u ≡ option_or (cond b (Some v) o) w
      under v o u w true q = refl
      under v o u w false q = q

  pub make_keeps_consistency : MakeKeepsConsistency P
  make_keeps_consistency pages f c fresh = (make-facts pages f c fresh).0

  pub make_gives_pages : MakeGivesPages P
  make_gives_pages pages f c fresh = (make-facts pages f c fresh).1

  make-stays : (pages : List (NodeName × P)) (f : Forest P) (x : NodeName) → IsNode f x → IsNode (make pages f) x
  make-stays [] f x is = is
  make-stays (e ∷ es) f x is = put-IsNode (make es f) e.0 x _ (make-stays es f x is)

  make-working : (pages : List (NodeName × P)) (f : Forest P) → ((x : NodeName) → x ∈ firsts pages → is_live x ≡ true) → (x : NodeName) → IsNode (make pages f) x → not (is_live x) ≡ true → IsNode f x
  make-working [] f live x is working = is
  make-working (e ∷ es) f live x is working = elim (IsNode-put_cases (make es f) e.0 x _ is) [
    | inl q ↦ absurd (cc (working, ap (λ z. not (is_live z)) q, ap not (live e.0 (inl refl))))
    | inr old ↦ make-working es f (λ y i. live y (inr i)) x old working
  ]

  pub make_keeps_bound : MakeKeepsBound P
  make_keeps_bound pages f fresh bound = bounded_from f (make pages f)
      (working_count-le (make pages f) f (make-working pages f (λ x i. (fresh.fresh x i).1)))
      (live_count-le f (make pages f) (λ x is t. make-stays pages f x is)) bound

  -- copy
  pub page-source : (b : Bool) (f : Forest P) (s y : NodeName) → cond b (value_of f s) (value_of f y) ≡ value_of f (cond b s y)
  page-source true f s y = refl
  page-source false f s y = refl

  pub still_pages : (f g : Forest P) (xs : List NodeName) → ((x : NodeName) → x ∈ xs → IsNode f x → IsNode g x) → ArePagesOnce f xs → ArePagesOnce g xs
  still_pages f g xs stays are = record { once = are.once; live = λ x i. let k = are.live x i in (stays x i k.0, k.1) }

  pub still_can : (f g : Forest P) (pairs : List (NodeName × NodeName)) → ((x : NodeName) → is_live x ≡ true → IsNode f x → IsNode g x) → CanCopy f pairs → CanCopy g pairs
  still_can f g pairs stays can = record {
    destinations = still_pages f g (firsts pairs) (λ x i is. stays x (can.destinations.live x i).1 is) can.destinations;
    sources = λ x i. let k = can.sources x i in (stays x k.1 k.0, k.1, k.2);
  }

  pub later_can : (f : Forest P) (e : NodeName × NodeName) (es : List (NodeName × NodeName)) → CanCopy f (e ∷ es) → CanCopy f es
  later_can f e es can = record {
    destinations = record { once = can.destinations.once.1; live = λ x i. can.destinations.live x (inr i) };
    sources = λ x i. let k = can.sources x (inr i) in (k.0, k.1, λ j. k.2 (inr j));
  }

  pub first_pages : (f : Forest P) (e : NodeName × NodeName) (es : List (NodeName × NodeName)) → CanCopy f (e ∷ es) → ArePages f e.0 e.1
  first_pages f e es can =
      let d = can.destinations.live e.0 (inl refl) in
      let s = can.sources e.1 (inl refl) in
      record { destination = d.0; source = s.0; apart = λ q. s.2 (inl (sym q)); live_destination = d.1; live_source = s.1 }

  pub source_live : (f : Forest P) (pairs : List (NodeName × NodeName)) (y : NodeName) → CanCopy f pairs → is_live y ≡ true → is_live (source_of pairs y) ≡ true
  source_live f pairs y can live = elim (source_cases pairs y) [ inl q ↦ ap is_live q ∙ live | inr i ↦ (can.sources (source_of pairs y) i).1 ]

  -- the source of another page is no destination
  pub source_apart : (f : Forest P) (e : NodeName × NodeName) (es : List (NodeName × NodeName)) → CanCopy f (e ∷ es) → (y : NodeName) → y ≢ e.0 → source_of es y ≢ e.0
  source_apart f e es can y apart q = elim (source_cases es y) [
    | inl r ↦ apart (sym r ∙ q)
    | inr i ↦ (can.sources (source_of es y) (inr i)).2 (inl q)
  ]

  pub copy_pages-facts : (is_small : Bool) (pairs : List (NodeName × NodeName)) (f : Forest P) → IsConsistent f → CanCopy f pairs
      → IsConsistent (copy_pages is_small pairs f) × ((y : NodeName) → is_live y ≡ true → value_of (copy_pages is_small pairs f) y ≡ value_of f (source_of pairs y))
  copy_pages-facts is_small [] f c can = (c, λ y live. refl)
  copy_pages-facts is_small (e ∷ es) f c can =
      let pages = first_pages f e es can in
      let g = copy_page is_small f e.0 e.1 in
      let value : (y : NodeName) → is_live y ≡ true → value_of g y ≡ value_of f (cond (same y e.0) e.1 y) = λ y live. copy_page-value f c e.0 e.1 pages is_small y live ∙ page-source (same y e.0) f e.1 y in
      let stays : (y : NodeName) → is_live y ≡ true → IsNode f y → IsNode g y = λ y live is. IsNode-equal f g c.shaped (cond (same y e.0) e.1 y) y (value y live) (chosen (same y e.0) f e.1 y pages.source is) in
      let rest = copy_pages-facts is_small es g (copy_page-consistent f c e.0 e.1 pages is_small) (still_can f g es stays (later_can f e es can)) in (
        rest.0,
        λ y live. rest.1 y live ∙ value (source_of es y) (source_live f es y (later_can f e es can) live) ∙ ap (value_of f) (names y),
      )
    where
      chosen : (b : Bool) (f : Forest P) (s y : NodeName) → IsNode f s → IsNode f y → IsNode f (cond b s y)
      chosen true f s y is_s is_y = is_s
      chosen false f s y is_s is_y = is_y

      names : (y : NodeName) → cond (same (source_of es y) e.0) e.1 (source_of es y) ≡ cond (same y e.0) e.1 (source_of es y)
      names y = elim (name_cases y e.0) [
        | inl q ↦ ap (λ z. cond (same z e.0) e.1 (source_of es y)) (source_outside es y (λ i. can.destinations.once.0 (subst (λ z. z ∈ firsts es) q i)))
        | inr apart ↦ ap (λ (t : Bool). cond t e.1 (source_of es y)) (same_apart (source_of es y) e.0 (source_apart f e es can y apart) ∙ sym (same_apart y e.0 apart))
      ]

  -- the saves first
  pub saved_stays : (named : Bool) (xs : List NodeName) (f : Forest P) → IsConsistent f → (x : NodeName) → IsNode f x → IsNode (saved named xs f) x
  saved_stays named xs f c x is = IsNode-equal f (saved named xs f) c.shaped x x (saved-values named xs f c x) is

  module _ (named : Bool) (pairs : List (NodeName × NodeName)) (f : Forest P) (c : IsConsistent f) (can : CanCopy f pairs) (is_small : Bool) where
    copied : Forest P
    copied = copy_pages is_small pairs (saved named (firsts pairs) f)

    copied-facts : IsConsistent copied × ((y : NodeName) → is_live y ≡ true → value_of copied y ≡ value_of (saved named (firsts pairs) f) (source_of pairs y))
    unfolding copied
    copied-facts = copy_pages-facts is_small pairs (saved named (firsts pairs) f) (saved-consistent named (firsts pairs) f c) (still_can f _ pairs (λ x live is. saved_stays named (firsts pairs) f c x is) can)

  pub copy_keeps_consistency : CopyKeepsConsistency P
  unfolding copied
  copy_keeps_consistency named pairs f c can = settle_keeps_consistency _ (copied-facts named pairs f c can _).0

  pub copy_copies : CopyCopies P
  unfolding copied
  copy_copies named pairs f c can y live =
      let facts = copied-facts named pairs f c can _ in
      settle_keeps_live_values _ facts.0 y live ∙ facts.1 y live ∙ saved-values named (firsts pairs) f c (source_of pairs y)

  pub copy_settles : CopySettles P
  unfolding copied
  copy_settles named pairs f c can = settle_settles _ (copied-facts named pairs f c can _).0

  pub copy_bounds : CopyBounds P
  copy_bounds named pairs f c can = settled_is_bounded _ (copy_keeps_consistency named pairs f c can).shaped (copy_settles named pairs f c can)

  pub copy_counts_saves : CopyCountsSaves P
  copy_counts_saves named pairs f = (settle-counters _).copies ∙ copy_pages-copies _ pairs _
