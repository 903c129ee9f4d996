-- A stub that is cut out of a list.
use Rattle.std.proofs.Common.{◌≡◌, ◌≢◌, ◌-◌, false, List, [], ◌∷◌, ◌++◌, length, Option, Some, None, refl, sym, ap, ◌∙◌, subst, inl, inr, arith, length-append}
use Rattle.std.proofs.lemmas.List.{append-nil}
use Rattle.vm_ids.specs.declared.numbers.NodeId.{NodeId}
use Rattle.local_cache.specs.declared.links.Links.{Links}
use Rattle.local_cache.specs.Arena.{Arena, cell, HasNode, with_links}
use Rattle.local_cache.specs.Threads.{head_or, last_or, Row, IsThreaded}
use Rattle.local_cache.specs.Sound.{◌∈◌}
pub use Rattle.local_cache.specs.Changes.{Once}
use Rattle.local_cache.proofs.Forest.StubRows.{row-front, row-rear, row-join, row-each, Keeps, keeps_links, row-kept, ends, last_or-end, last_or-append, last_in}
use Rattle.local_cache.proofs.Forest.StubRows.Ends.{IsNone, EndsBy}
use Rattle.local_cache.proofs.Changes.SameNodes.{Relinked, relinked, relinked_then, links-with_links, links-with_links_other}
use Rattle.page_stubs.specs.Threading.{IsHeldIf, with_behind, with_before, end_after, cut_out}
use Rattle.page_stubs.proofs.Lists.Links.{before_relinked, behind_relinked, held_if, links-before, links-before_other, links-behind, links-behind_other}

pub record Cut (a b : Arena) (n p : NodeId) (before behind : Option NodeId) : Type 0 where
  pub relinked : Relinked a b
  pub of_before : (l : NodeId) → before ≡ Some l → (cell b l).links ≡ record (cell a l).links { behind = behind }
  pub of_behind : (r : NodeId) → behind ≡ Some r → (cell b r).links ≡ record (cell a r).links { before = before }
  pub of_p : (cell b p).links ≡ record (cell a p).links { first = end_after before behind (cell a p).links.first; last = end_after behind before (cell a p).links.last; stubs = (cell a p).links.stubs - 1 }
  pub of_n : (cell b n).links ≡ record (cell a n).links { parent = None; by_stub = false; before = None; behind = None }
  pub others : (m : NodeId) → m ≢ n → m ≢ p → (before ≡ Some m → ⊥) → (behind ≡ Some m → ⊥) → (cell b m).links ≡ (cell a m).links

-- the two neighbours, the node and its parent are four nodes
pub record Apart (n p : NodeId) (before behind : Option NodeId) : Type 0 where
  pub n_p : n ≢ p
  pub before_n : before ≡ Some n → ⊥
  pub before_p : before ≡ Some p → ⊥
  pub behind_n : behind ≡ Some n → ⊥
  pub behind_p : behind ≡ Some p → ⊥
  pub both : (m : NodeId) → before ≡ Some m → behind ≡ Some m → ⊥

pub cut-Cut : (a : Arena) (n p : NodeId) (before behind : Option NodeId) → HasNode a n → HasNode a p → IsHeldIf a before → IsHeldIf a behind → Apart n p before behind → Cut a (cut_out a n p before behind) n p before behind
cut-Cut a n p before behind hn hp hb hh far =
    let a1 : Arena = with_behind a before behind in
    let a2 : Arena = with_before a1 behind before in
    let first : Option NodeId = end_after before behind (cell a p).links.first in
    let last : Option NodeId = end_after behind before (cell a p).links.last in
    let of : Links → Links = λ l. record l { first = first; last = last; stubs = (cell a p).links.stubs - 1 } in
    let out : Links → Links = λ l. record l { parent = None; by_stub = false; before = None; behind = None } in
    let a3 : Arena = with_links a2 p (of (cell a2 p).links) in
    let b : Arena = with_links a3 n (out (cell a3 n).links) in
    let r1 = behind_relinked a before behind hb in
    let r2 = before_relinked a1 behind before (held_if a a1 behind r1.like hh) in
    let r12 = relinked_then a a1 a2 r1 r2 in
    let r3 = relinked a2 p (of (cell a2 p).links) (r12.like.held p ∙ hp) in
    let r13 = relinked_then a a2 a3 r12 r3 in
    let early : (m : NodeId) → (before ≡ Some m → ⊥) → (behind ≡ Some m → ⊥) → (cell a2 m).links ≡ (cell a m).links = λ m nb nh. links-before_other a1 behind before m nh ∙ links-behind_other a before behind m nb in
    let late : (m : NodeId) → m ≢ n → m ≢ p → (cell b m).links ≡ (cell a2 m).links = λ m nn np. links-with_links_other a3 n m _ nn ∙ links-with_links_other a2 p m _ np in
    record {
      relinked = relinked_then a a3 b r13 (relinked a3 n (out (cell a3 n).links) (r13.like.held n ∙ hn));
      of_before = λ l e. late l (λ q. far.before_n (e ∙ ap Some q)) (λ q. far.before_p (e ∙ ap Some q)) ∙ links-before_other a1 behind before l (far.both l e) ∙ links-behind a before behind l e;
      of_behind = λ r e. late r (λ q. far.behind_n (e ∙ ap Some q)) (λ q. far.behind_p (e ∙ ap Some q)) ∙ links-before a1 behind before r e ∙ ap (before_is before) (links-behind_other a before behind r (λ q. far.both r q e));
      of_p = links-with_links_other a3 n p _ (λ e. far.n_p (sym e)) ∙ links-with_links a2 p _ ∙ ap of (early p far.before_p far.behind_p);
      of_n = links-with_links a3 n _ ∙ ap out (links-with_links_other a2 p n _ far.n_p ∙ early n far.before_n far.behind_n);
      others = λ m nn np nb nh. late m nn np ∙ early m nb nh;
    }
  where
    before_is : Option NodeId → Links → Links
    before_is o l = record l { before = o }

-- Lists without repeats

pub in_left : (us vs : List NodeId) (y : NodeId) → y ∈ us → y ∈ (us ++ vs)
in_left [] vs y i = absurd i
in_left (u ∷ us) vs y (inl e) = inl e
in_left (u ∷ us) vs y (inr i) = inr (in_left us vs y i)

pub in_right : (us vs : List NodeId) (y : NodeId) → y ∈ vs → y ∈ (us ++ vs)
in_right [] vs y i = i
in_right (u ∷ us) vs y i = inr (in_right us vs y i)

pub once-apart : (us vs : List NodeId) → Once (us ++ vs) → (y : NodeId) → y ∈ us → y ∈ vs → ⊥
once-apart [] vs once y i j = i
once-apart (u ∷ us) vs once y (inl e) j = once.0 (in_right us vs u (subst (λ k. k ∈ vs) e j))
once-apart (u ∷ us) vs once y (inr i) j = once-apart us vs once.1 y i j

pub once-front : (us vs : List NodeId) → Once (us ++ vs) → Once us
once-front [] vs once = tt
once-front (u ∷ us) vs once = ((λ i. once.0 (in_left us vs u i)), once-front us vs once.1)

pub once-rear : (us vs : List NodeId) → Once (us ++ vs) → Once vs
once-rear [] vs once = once
once-rear (u ∷ us) vs once = once-rear us vs once.1

last_some : (us : List NodeId) (u : NodeId) → (l : NodeId) × (last_or us (Some u) ≡ Some l)
last_some [] u = (u, refl)
last_some (v ∷ us) u = last_some us v

first_is : (us vs : List NodeId) (n : NodeId) → end_after (last_or us None) (head_or vs None) (head_or (us ++ n ∷ vs) None) ≡ head_or (us ++ vs) None
first_is [] vs n = refl
first_is (u ∷ us) vs n = let l = last_some us u in ap (λ o. end_after o (head_or vs None) (Some u)) l.1

last_is : (us vs : List NodeId) (n : NodeId) → end_after (head_or vs None) (last_or us None) (last_or (us ++ n ∷ vs) None) ≡ last_or (us ++ vs) None
last_is us [] n = ap (λ zs. last_or zs None) (sym (append-nil us))
last_is us (v ∷ vs) n = last_or-append us (n ∷ v ∷ vs) None ∙ sym (last_or-append us (v ∷ vs) None)

-- The list

module _ (a b : Arena) (n p : NodeId) (us vs : List NodeId) (t : IsThreaded a p (us ++ n ∷ vs)) (once : Once (us ++ n ∷ vs)) (no_loop : (cell a p).links.parent ≡ Some p → ⊥)
    (cut : Cut a b n p (last_or us None) (head_or vs None)) where
  held : (m : NodeId) → HasNode a m → HasNode b m
  held m h = cut.relinked.like.held m ∙ h

  front : Row a p None us (Some n)
  front = row-front a p None us (n ∷ vs) None t.row

  rear : Row a p (Some n) vs None
  rear = (row-rear a p None us (n ∷ vs) None t.row).1

  not_p : (m : NodeId) → (cell a m).links.parent ≡ Some p → m ≢ p
  not_p m up e = no_loop (subst (λ k. (cell a k).links.parent ≡ Some p) e up)

  -- a node of the front but its last is kept
  front_kept : (ws : List NodeId) (l : NodeId) → us ≡ ws ++ l ∷ [] → (y : NodeId) → y ∈ ws → Keeps a b y
  front_kept ws l e y i =
      let y_us : y ∈ us = subst (λ zs. y ∈ zs) (sym e) (in_left ws (l ∷ []) y i) in
      let each = row-each a p None us (Some n) front y y_us in
      let last_l : last_or us None ≡ Some l = ap (λ zs. last_or zs None) e ∙ last_or-end ws l None in
      keeps_links a b y (held y) (cut.others y
      (λ q. once-apart us (n ∷ vs) once y y_us (inl q))
      (not_p y each.1)
      (λ q. (let two : Some l ≡ Some y = sym last_l ∙ q in let same : l ≡ y = cc two in
      once-apart ws (l ∷ []) (subst Once e (once-front us (n ∷ vs) once)) y i (inl (sym same))))
      (λ q. once-apart us (n ∷ vs) once y y_us (inr (head_in vs y q))))
    where
      head_in : (zs : List NodeId) (y : NodeId) → head_or zs None ≡ Some y → y ∈ zs
      head_in [] y q = absurd (cc q)
      head_in (z ∷ zs) y q = let same : z ≡ y = cc q in inl (sym same)

  new_front : Row b p None us (head_or vs None)
  new_front = elim (ends us) [
    | IsNone e ↦ subst (λ zs. Row b p None zs (head_or vs None)) (sym e) tt
    | EndsBy ws l e ↦
        let was : Row a p None (ws ++ l ∷ []) (Some n) = subst (λ zs. Row a p None zs (Some n)) e front in
        let at_l = (row-rear a p None ws (l ∷ []) (Some n) was).0 in
        let last_l : last_or us None ≡ Some l = ap (λ zs. last_or zs None) e ∙ last_or-end ws l None in
        let now = cut.of_before l last_l in
        subst (λ zs. Row b p None zs (head_or vs None)) (sym e)
        (row-join b p None ws (l ∷ []) (head_or vs None)
        (row-kept a b p None ws (Some l) (front_kept ws l e) (row-front a p None ws (l ∷ []) (Some n) was)) (
          record {
            held = held l at_l.held;
            parent = ap (λ k. k.parent) now ∙ at_l.parent;
            by_stub = ap (λ k. k.by_stub) now ∙ at_l.by_stub;
            has_before = ap (λ k. k.before) now ∙ at_l.has_before;
            has_behind = ap (λ k. k.behind) now;
          },
          tt,
        ))
  ]

  new_rear : (zs : List NodeId) → vs ≡ zs → Row b p (last_or us None) zs None
  new_rear [] e = tt
  new_rear (r ∷ rs) e =
      let was : Row a p (Some n) (r ∷ rs) None = subst (λ zs. Row a p (Some n) zs None) e rear in
      let now = cut.of_behind r (ap (λ zs. head_or zs None) e) in
      let once_vs : Once (n ∷ r ∷ rs) = subst (λ zs. Once (n ∷ zs)) e (once-rear us (n ∷ vs) once) in
      let kept : (z : NodeId) → z ∈ rs → Keeps a b z = λ z i.
      let each = row-each a p (Some r) rs None was.1 z i in
      keeps_links a b z (held z) (cut.others z
      (λ q. once_vs.0 (inr (subst (λ k. k ∈ rs) q i)))
      (not_p z each.1)
      (λ q. (let z_us = last_in us z q in once-apart us (n ∷ vs) once z z_us (inr (subst (λ zs. z ∈ zs) (sym e) (inr i)))))
      (λ q. (let two : Some r ≡ Some z = sym (ap (λ zs. head_or zs None) e) ∙ q in let same : r ≡ z = cc two in once_vs.1.0 (subst (λ k. k ∈ rs) (sym same) i)))) in (
        record {
          held = held r was.0.held;
          parent = ap (λ k. k.parent) now ∙ was.0.parent;
          by_stub = ap (λ k. k.by_stub) now ∙ was.0.by_stub;
          has_before = ap (λ k. k.before) now;
          has_behind = ap (λ k. k.behind) now ∙ was.0.has_behind;
        },
        row-kept a b p (Some r) rs None kept was.1,
      )

  pub threaded_cut : IsThreaded b p (us ++ vs)
  threaded_cut = record {
    row = row-join b p None us vs None new_front (new_rear vs refl);
    first = ap (λ l. l.first) cut.of_p ∙ ap (end_after (last_or us None) (head_or vs None)) t.first ∙ first_is us vs n;
    last = ap (λ l. l.last) cut.of_p ∙ ap (end_after (head_or vs None) (last_or us None)) t.last ∙ last_is us vs n;
    count = ap (λ l. l.stubs) cut.of_p ∙ ap (λ k. k - 1) t.count ∙ one_less;
  }
    where
      one_less : length (us ++ n ∷ vs) - 1 ≡ length (us ++ vs)
      one_less = omega (arith, length-append us (n ∷ vs), length-append us vs)
