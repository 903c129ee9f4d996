-- Stubs that are handed to another node, one after another.
use Rattle.std.proofs.Common.{◌≡◌, ◌⊎◌, ℕ, zero, suc, ◌<◌, List, [], ◌∷◌, ◌++◌, take, drop, length, true, Option, Some, None, refl, sym, ap, ◌∙◌, subst, inl, inr, arith}
use Rattle.vm_ids.specs.declared.numbers.NodeId.{NodeId}
use Rattle.local_cache.specs.declared.links.Links.{Links}
use Rattle.local_cache.specs.declared.links.Neighbours.{Neighbours}
use Rattle.local_cache.specs.Arena.{Arena, cell, HasNode, with_links}
use Rattle.local_cache.specs.NodeCells.{neighbours_of}
use Rattle.local_cache.specs.Reading.{stubs_of}
use Rattle.local_cache.specs.Threads.{head_or, last_or, IsStub, Row}
use Rattle.local_cache.specs.Sound.{IsKept, ◌∈◌}
use Rattle.local_cache.specs.Changes.{Once}
use Rattle.local_cache.proofs.Forest.StubRows.{row-rear}
use Rattle.local_cache.proofs.Changes.SameNodes.{relinked, relinked_then, links-with_links, links-with_links_other}
use Rattle.page_stubs.specs.Handing.{Handed}
use Rattle.page_stubs.proofs.Lists.Cut.{once-apart}
use Rattle.page_stubs.proofs.Lists.Room.{room-links}

-- the i-th of a list
pub at_place : (ys : List NodeId) (i : ℕ) → i < length ys → (y : NodeId) × (drop i ys ≡ y ∷ drop (suc i) ys) × (take (suc i) ys ≡ take i ys ++ y ∷ [])
at_place [] i h = absurd (omega arith)
at_place (y ∷ ys) zero h = (y, refl, refl)
at_place (y ∷ ys) (suc i) h = let r = at_place ys i (omega arith) in (r.0, r.1, ap (λ zs. y ∷ zs) r.2)

pub all_parts : (ys : List NodeId) (i : ℕ) → ys ≡ take i ys ++ drop i ys
all_parts [] zero = refl
all_parts [] (suc i) = refl
all_parts (y ∷ ys) zero = refl
all_parts (y ∷ ys) (suc i) = ap (λ zs. y ∷ zs) (all_parts ys i)

in_end : (us : List NodeId) (y m : NodeId) → m ∈ (us ++ y ∷ []) → (m ∈ us) ⊎ (m ≡ y)
in_end [] y m (inl e) = inr e
in_end [] y m (inr i) = absurd i
in_end (u ∷ us) y m (inl e) = inl (inl e)
in_end (u ∷ us) y m (inr i) = elim (in_end us y m i) [ inl j ↦ inl (inr j) | inr e ↦ inr e ]

in_front : (us : List NodeId) (y m : NodeId) → m ∈ us → m ∈ (us ++ y ∷ [])
in_front [] y m i = absurd i
in_front (u ∷ us) y m (inl e) = inl e
in_front (u ∷ us) y m (inr i) = inr (in_front us y m i)

in_last : (us : List NodeId) (y : NodeId) → y ∈ (us ++ y ∷ [])
in_last [] y = inl refl
in_last (u ∷ us) y = inr (in_last us y)

pub handed_more : (a b : Arena) (us : List NodeId) (y to : NodeId) → HasNode b y → (y ∈ us → ⊥) → Handed a b us to → Handed a (with_links b y (record (cell b y).links { parent = Some to })) (us ++ y ∷ []) to
handed_more a b us y to hy new h =
    let links : Links = record (cell b y).links { parent = Some to } in
    record {
      relinked = relinked_then a b (with_links b y links) h.relinked (relinked b y links hy);
      room = room-links b y links ∙ h.room;
      done = λ m i. elim (in_end us y m i) [
        | inl old ↦ links-with_links_other b y m links (λ e. new (subst (λ k. k ∈ us) e old)) ∙ h.done m old
        | inr e ↦ subst (λ k. (cell (with_links b y links) k).links ≡ record (cell a k).links { parent = Some to }) (sym e) (links-with_links b y links ∙ ap (up to) (h.rest y new))
      ];
      rest = λ m out. links-with_links_other b y m links (λ e. out (subst (λ k. k ∈ (us ++ y ∷ [])) (sym e) (in_last us y))) ∙ h.rest m (λ i. out (in_front us y m i));
    }
  where
    up : NodeId → Links → Links
    up to l = record l { parent = Some to }

-- one turn of the loop, at a place of the list
module _ (a b : Arena) (kept : IsKept a) (from to : NodeId) (hf : HasNode a from) (once : Once (stubs_of a from)) (i : ℕ) (within : i < (cell a from).links.stubs)
    (h : Handed a b (take i (stubs_of a from)) to) where
  ys : List NodeId
  ys = stubs_of a from

  pub short : i < length (stubs_of a from)
  short = let t = kept.threaded from hf in omega (arith, t.count)

  y : NodeId
  y = (at_place (stubs_of a from) i short).0

  parts : stubs_of a from ≡ take i (stubs_of a from) ++ (at_place (stubs_of a from) i short).0 ∷ drop (suc i) (stubs_of a from)
  parts = all_parts (stubs_of a from) i ∙ ap (λ zs. take i (stubs_of a from) ++ zs) (at_place (stubs_of a from) i short).1

  pub next_is : head_or (drop i (stubs_of a from)) None ≡ Some (at_place (stubs_of a from) i short).0
  next_is = ap (λ zs. head_or zs None) (at_place (stubs_of a from) i short).1

  stub : IsStub a from (last_or (take i (stubs_of a from)) None) (at_place (stubs_of a from) i short).0 (head_or (drop (suc i) (stubs_of a from)) None)
  stub = (row-rear a from None (take i (stubs_of a from)) ((at_place (stubs_of a from) i short).0 ∷ drop (suc i) (stubs_of a from)) None (subst (λ zs. Row a from None zs None) parts (kept.threaded from hf).row)).0

  pub held_y : HasNode b (at_place (stubs_of a from) i short).0
  held_y = h.relinked.like.held (at_place (stubs_of a from) i short).0 ∙ stub.held

  new : (at_place (stubs_of a from) i short).0 ∈ take i (stubs_of a from) → ⊥
  new j = once-apart (take i (stubs_of a from)) ((at_place (stubs_of a from) i short).0 ∷ drop (suc i) (stubs_of a from)) (subst Once parts once) (at_place (stubs_of a from) i short).0 j (inl refl)

  still_stub : (cell b (at_place (stubs_of a from) i short).0).links.by_stub ≡ true
  still_stub = ap (λ m. m.by_stub) (h.rest (at_place (stubs_of a from) i short).0 new) ∙ stub.by_stub

  pub turn : (c : Arena) (k : NodeId) (m : Neighbours) (o : Option NodeId) → o ≡ head_or (drop i (stubs_of a from)) None → o ≡ Some k → m ≡ neighbours_of (cell b k).links
      → c ≡ with_links b k (record (cell b k).links { parent = Some to; by_stub = true; before = m.before; behind = m.behind })
      → Handed a c (take (suc i) (stubs_of a from)) to × (m.behind ≡ head_or (drop (suc i) (stubs_of a from)) None)
  turn c k m o o_is is m_is c_is =
      let k_is : (at_place (stubs_of a from) i short).0 ≡ k = (let two : Some (at_place (stubs_of a from) i short).0 ≡ Some k = sym next_is ∙ sym o_is ∙ is in cc two) in
      let step = handed_more a b (take i (stubs_of a from)) (at_place (stubs_of a from) i short).0 to held_y new h in
      let by_stub : (cell b k).links.by_stub ≡ true = subst (λ q. (cell b q).links.by_stub ≡ true) k_is still_stub in
      let same : c ≡ with_links b (at_place (stubs_of a from) i short).0 (record (cell b (at_place (stubs_of a from) i short).0).links { parent = Some to }) =
      c_is ∙ ap (λ (n : Neighbours). with_links b k (record (cell b k).links { parent = Some to; by_stub = true; before = n.before; behind = n.behind })) m_is
      ∙ ap (λ t. with_links b k (record (cell b k).links { parent = Some to; by_stub = t })) (sym by_stub)
      ∙ ap (λ q. with_links b q (record (cell b q).links { parent = Some to })) (sym k_is) in
      let at_c : Handed a c (take i (stubs_of a from) ++ (at_place (stubs_of a from) i short).0 ∷ []) to = subst (λ x. Handed a x (take i (stubs_of a from) ++ (at_place (stubs_of a from) i short).0 ∷ []) to) (sym same) step in (
        subst (λ zs. Handed a c zs to) (sym (at_place (stubs_of a from) i short).2) at_c,
        ap (λ (n : Neighbours). n.behind) m_is ∙ ap (λ q. (cell b q).links.behind) (sym k_is) ∙ ap (λ l. l.behind) (h.rest (at_place (stubs_of a from) i short).0 new) ∙ stub.has_behind,
      )
