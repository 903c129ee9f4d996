-- A stub at the end of a list: what it does to the links, the list and the forest.
use Rattle.std.proofs.Common.{◌≡◌, ◌≢◌, ◌+◌, true, List, [], ◌∷◌, ◌++◌, map, Option, Some, None, refl, sym, ap, ◌∙◌, subst, inl, inr, length-append}
use Rattle.std.specs.Option.{option_or}
use Rattle.std.proofs.lemmas.List.{map-append}
use Rattle.vm_ids.specs.declared.node_name.NodeName.{NodeName}
use Rattle.vm_ids.specs.Forest.Changes as forest
use Rattle.vm_ids.specs.Forest.Nodes.{Forest, node, childless}
use Rattle.vm_ids.specs.Forest.Shape.{IsLinked}
use Rattle.vm_ids.specs.Forest.Rules.{stub}
use Rattle.vm_ids.specs.Forest.Nodes.Hang.{Root, StubOf}
use Rattle.vm_ids.proofs.Forest.Detaching.{stub-own, stub-tree, stub-stubs_s, stub-stubs, stub-hang_d, stub-hang, stub-linked, stub-names}
use Rattle.vm_ids.specs.declared.numbers.NodeId.{NodeId}
use Rattle.local_cache.specs.declared.links.Links.{Links}
use Rattle.local_cache.specs.Arena.{Arena, cell, HasNode, with_links}
use Rattle.local_cache.specs.Reading.{name_of, node_of, forest_of, hang_by, stubs_of, page_of}
use Rattle.local_cache.specs.Threads.{head_or, last_or, Row, IsThreaded, AreThreaded}
use Rattle.local_cache.specs.Sound.{IsSound, ◌∈◌}
use Rattle.local_cache.proofs.Forest.Reading.{node-forest_of, IsNode-forest_of}
use Rattle.local_cache.proofs.Forest.StubRows.{threaded_is, row-front, row-rear, row-join, row-each, Keeps, keeps_links, row-kept, ends, last_in, option_cases, last_or-end, row-behind, threaded-kept}
use Rattle.local_cache.proofs.Changes.SameNodes.{Like, listed-like, Relinked, relinked, relinked_then, links-with_links, links-with_links_other, id_cases, map-like, named-like, reads_like, hang_root, hang-like, irreflexive, same_node, forest_of-made, forest_of-copies}
use Rattle.local_cache.proofs.Forest.StubRows.Ends.{IsNone, EndsBy}
use Rattle.page_stubs.specs.Threading.{IsHeldIf, with_behind, added}
use Rattle.page_stubs.proofs.Lists.Links.{behind_relinked, held_if, links-behind, links-behind_other}

pub record Added (a b : Arena) (d s : NodeId) (last : Option NodeId) : Type 0 where
  pub relinked : Relinked a b
  pub of_d : (cell b d).links ≡ record (cell a d).links { parent = Some s; by_stub = true; before = last; behind = None }
  pub of_last : (l : NodeId) → last ≡ Some l → (cell b l).links ≡ record (cell a l).links { behind = Some d }
  pub of_s : (cell b s).links ≡ record (cell a s).links { first = option_or (cell a s).links.first (Some d); last = Some d; stubs = (cell a s).links.stubs + 1 }
  pub others : (n : NodeId) → n ≢ d → n ≢ s → (last ≡ Some n → ⊥) → (cell b n).links ≡ (cell a n).links

pub added-Added : (a : Arena) (d s : NodeId) (last : Option NodeId) → HasNode a d → HasNode a s → IsHeldIf a last → d ≢ s → ((l : NodeId) → last ≡ Some l → (l ≢ d) × (l ≢ s)) → Added a (added a d s last) d s last
added-Added a d s last hd hs hl d_s far =
    let own : Links = record (cell a d).links { parent = Some s; by_stub = true; before = last; behind = None } in
    let to : Links → Links = λ l. record l { first = option_or (cell a s).links.first (Some d); last = Some d; stubs = (cell a s).links.stubs + 1 } in
    let behind_d : Links → Links = λ l. record l { behind = Some d } in
    let a1 : Arena = with_links a d own in
    let a2 : Arena = with_behind a1 last (Some d) in
    let r1 = relinked a d own hd in
    let r2 = relinked_then a a1 a2 r1 (behind_relinked a1 last (Some d) (held_if a a1 last r1.like hl)) in
    record {
      relinked = relinked_then a a2 (added a d s last) r2 (relinked a2 s (to (cell a2 s).links) (r2.like.held s ∙ hs));
      of_d = links-with_links_other a2 s d _ d_s ∙ links-behind_other a1 last (Some d) d (λ e. (far d e).0 refl) ∙ links-with_links a d own;
      of_last = λ l e. links-with_links_other a2 s l _ (far l e).1 ∙ links-behind a1 last (Some d) l e ∙ ap behind_d (links-with_links_other a d l own (far l e).0);
      of_s = links-with_links a2 s _ ∙ ap to (links-behind_other a1 last (Some d) s (λ e. (far s e).1 refl) ∙ links-with_links_other a d s own (λ e. d_s (sym e)));
      others = λ n nd ns nl. links-with_links_other a2 s n _ ns ∙ links-behind_other a1 last (Some d) n nl ∙ links-with_links_other a d n own nd;
    }

option_or-head : (us : List NodeId) (d : NodeId) → option_or (head_or us None) (Some d) ≡ head_or (us ++ d ∷ []) None
option_or-head [] d = refl
option_or-head (u ∷ us) d = refl

-- what is known of the caches before, without the forest
pub record CanAdd (a : Arena) (d s : NodeId) (ys : List NodeId) : Type 0 where
  pub held_d : HasNode a d
  pub root_d : (cell a d).links.parent ≡ None
  pub apart : d ≢ s
  pub irreflexive : (cell a s).links.parent ≡ Some s → ⊥
  pub list : IsThreaded a s ys

pub threaded_s : (a b : Arena) (d s : NodeId) (ys : List NodeId) → CanAdd a d s ys → Added a b d s (cell a s).links.last → IsThreaded b s (ys ++ d ∷ [])
threaded_s a b d s ys can link = record {
  row = elim (ends ys) [
    | IsNone e ↦ rw e (
      record {
        held = held d can.held_d;
        parent = ap (λ l. l.parent) link.of_d;
        by_stub = ap (λ l. l.by_stub) link.of_d;
        has_before = ap (λ l. l.before) link.of_d ∙ can.list.last ∙ ap (λ zs. last_or zs None) e;
        has_behind = ap (λ l. l.behind) link.of_d;
      },
      tt,
    )
    | EndsBy us l e ↦ rw e (with_end us l e)
  ];
  first = ap (λ l. l.first) link.of_s ∙ ap (λ o. option_or o (Some d)) can.list.first ∙ option_or-head ys d;
  last = ap (λ l. l.last) link.of_s ∙ sym (last_or-end ys d None);
  count = ap (λ l. l.stubs) link.of_s ∙ ap (λ k. k + 1) can.list.count ∙ sym (length-append ys (d ∷ []));
}
  where
    held : (n : NodeId) → HasNode a n → HasNode b n
    held n h = link.relinked.like.held n ∙ h

    no_parent : (n x : NodeId) → (cell a n).links.parent ≡ Some x → n ≡ d → ⊥
    no_parent n x up e = let k : (cell a n).links.parent ≡ None = ap (λ m. (cell a m).links.parent) e ∙ can.root_d in cc (up, k)

    not_s : (n : NodeId) → (cell a n).links.parent ≡ Some s → n ≡ s → ⊥
    not_s n up e = can.irreflexive (subst (λ m. (cell a m).links.parent ≡ Some s) e up)

    with_end : (us : List NodeId) (l : NodeId) → ys ≡ us ++ l ∷ [] → Row b s None ((us ++ l ∷ []) ++ d ∷ []) None
    with_end us l e =
        let was : Row a s None (us ++ l ∷ []) None = subst (λ zs. Row a s None zs None) e can.list.row in
        let front = row-front a s None us (l ∷ []) None was in
        let at_l = (row-rear a s None us (l ∷ []) None was).0 in
        let last_is : (cell a s).links.last ≡ Some l = can.list.last ∙ ap (λ zs. last_or zs None) e ∙ last_or-end us l None in
        let now_l = link.of_last l last_is in
        let kept : (y : NodeId) → y ∈ us → Keeps a b y = λ y i.
        let each = row-each a s None us (Some l) front y i in
        let more = row-behind a s None us l front y i in
        keeps_links a b y (held y) (link.others y (no_parent y s each.1) (not_s y each.1) (λ q.
        let y_l : l ≡ y = (let two : Some l ≡ Some y = sym last_is ∙ q in cc two) in
        let ended : (cell a y).links.behind ≡ None = ap (λ m. (cell a m).links.behind) (sym y_l) ∙ at_l.has_behind in
        (let clash : Some more.0 ≡ None = sym more.1 ∙ ended in cc clash))) in
        row-join b s None (us ++ l ∷ []) (d ∷ []) None
        (row-join b s None us (l ∷ []) (Some d) (row-kept a b s None us (Some l) kept front) (
          record {
            held = held l at_l.held;
            parent = ap (λ k. k.parent) now_l ∙ at_l.parent;
            by_stub = ap (λ k. k.by_stub) now_l ∙ at_l.by_stub;
            has_before = ap (λ k. k.before) now_l ∙ at_l.has_before;
            has_behind = ap (λ k. k.behind) now_l;
          },
          tt,
        )) (
          record {
            held = held d can.held_d;
            parent = ap (λ k. k.parent) link.of_d;
            by_stub = ap (λ k. k.by_stub) link.of_d;
            has_before = ap (λ k. k.before) link.of_d ∙ last_is ∙ sym (last_or-end us l None);
            has_behind = ap (λ k. k.behind) link.of_d;
          },
          tt,
        )

stub-made_is : {P : Type 0} (f : Forest P) (d s : NodeName) → (stub f d s).made ≡ f.made
unfolding stub forest.put
stub-made_is f d s = refl

stub-copies_is : {P : Type 0} (f : Forest P) (d s : NodeName) → (stub f d s).copies ≡ f.copies
unfolding stub forest.put
stub-copies_is f d s = refl

-- The whole rule

module _ (a : Arena) (sound : IsSound a) (d s : NodeId) (hd : HasNode a d) (hs : HasNode a s) (bare : node (forest_of a) (name_of a d) ≡ childless None Root) (d_s : d ≢ s) where
  bare_node : node_of a d ≡ childless None Root
  bare_node = sym (node-forest_of a sound.kept.named d hd) ∙ bare

  root_d : (cell a d).links.parent ≡ None
  root_d = hang_root a (cell a d).links.parent (cell a d).links.by_stub (ap (λ n. n.hang) bare_node)

  pub can_add : CanAdd a d s (stubs_of a s)
  can_add = record { held_d = hd; root_d = root_d; apart = d_s; irreflexive = irreflexive a sound.kept.named sound.linked s hs; list = sound.kept.threaded s hs }

  last_stub : (l : NodeId) → (cell a s).links.last ≡ Some l → HasNode a l × ((cell a l).links.parent ≡ Some s) × ((cell a l).links.by_stub ≡ true)
  last_stub l e = let t = sound.kept.threaded s hs in row-each a s None (stubs_of a s) None t.row l (last_in (stubs_of a s) l (sym t.last ∙ e))

  pub last_held : IsHeldIf a (cell a s).links.last
  last_held = go (cell a s).links.last (λ l e. (last_stub l e).0)
    where
      go : (o : Option NodeId) → ((l : NodeId) → o ≡ Some l → HasNode a l) → IsHeldIf a o
      go None f = tt
      go (Some l) f = f l refl

  pub last_far : (l : NodeId) → (cell a s).links.last ≡ Some l → (l ≢ d) × (l ≢ s)
  last_far l e =
      let up = (last_stub l e).1 in (
        λ q. (let clash : Some s ≡ None = sym up ∙ ap (λ m. (cell a m).links.parent) q ∙ root_d in cc clash),
        λ q. can_add.irreflexive (subst (λ m. (cell a m).links.parent ≡ Some s) q up),
      )

  module _ (b : Arena) (link : Added a b d s (cell a s).links.last) where
    like : Like a b
    like = link.relinked.like

    -- the place of each node but d is kept where its parent is not s
    data Case (n : NodeId) : Type 0 where
      At_d : n ≡ d → Case n
      At_s : n ≡ s → Case n
      At_last : (cell a s).links.last ≡ Some n → Case n
      Other : (cell b n).links ≡ (cell a n).links → Case n

    case : (n : NodeId) → Case n
    case n = elim (id_cases n d) [
      | inl e ↦ At_d e
      | inr nd ↦ elim (id_cases n s) [
        | inl e ↦ At_s e
        | inr ns ↦ elim (option_cases (cell a s).links.last n) [ inl e ↦ At_last e | inr nl ↦ Other (link.others n nd ns nl) ]
      ]
    ]

    up_kept : (n : NodeId) → n ≢ d → ((cell b n).links.parent ≡ (cell a n).links.parent) × ((cell b n).links.by_stub ≡ (cell a n).links.by_stub)
    up_kept n nd = elim (case n) [
      | At_d e ↦ absurd (nd e)
      | At_s e ↦ subst (λ m. ((cell b m).links.parent ≡ (cell a m).links.parent) × ((cell b m).links.by_stub ≡ (cell a m).links.by_stub)) (sym e) (ap (λ l. l.parent) link.of_s, ap (λ l. l.by_stub) link.of_s)
      | At_last e ↦ (ap (λ l. l.parent) (link.of_last n e), ap (λ l. l.by_stub) (link.of_last n e))
      | Other e ↦ (ap (λ l. l.parent) e, ap (λ l. l.by_stub) e)
    ]

    abbrev EndsKept : NodeId → Type 0
    EndsKept n = ((cell b n).links.first ≡ (cell a n).links.first) × ((cell b n).links.last ≡ (cell a n).links.last) × ((cell b n).links.stubs ≡ (cell a n).links.stubs)

    ends_kept : (n : NodeId) → n ≢ s → EndsKept n
    ends_kept n ns = elim (case n) [
      | At_d e ↦ subst EndsKept (sym e) (ap (λ l. l.first) link.of_d, ap (λ l. l.last) link.of_d, ap (λ l. l.stubs) link.of_d)
      | At_s e ↦ absurd (ns e)
      | At_last e ↦ (ap (λ l. l.first) (link.of_last n e), ap (λ l. l.last) (link.of_last n e), ap (λ l. l.stubs) (link.of_last n e))
      | Other e ↦ (ap (λ l. l.first) e, ap (λ l. l.last) e, ap (λ l. l.stubs) e)
    ]

    place_kept : (x n : NodeId) → x ≢ s → (cell a n).links.parent ≡ Some x → Keeps a b n
    place_kept x n xs up = elim (case n) [
      | At_d e ↦ absurd (let clash : Some x ≡ None = sym up ∙ ap (λ m. (cell a m).links.parent) e ∙ root_d in cc clash)
      | At_s e ↦ subst (Keeps a b) (sym e) (record { held = λ h. like.held s ∙ h; parent = ap (λ l. l.parent) link.of_s; by_stub = ap (λ l. l.by_stub) link.of_s; before = ap (λ l. l.before) link.of_s; behind = ap (λ l. l.behind) link.of_s })
      | At_last e ↦ absurd (xs (let two : Some x ≡ Some s = sym up ∙ (last_stub n e).1 in cc two))
      | Other e ↦ keeps_links a b n (λ h. like.held n ∙ h) e
    ]

    threaded_other : (x : NodeId) → HasNode a x → x ≢ s → IsThreaded b x (stubs_of a x)
    threaded_other x h ns =
        let t = sound.kept.threaded x h in
        let k = ends_kept x ns in
        threaded-kept a b x (stubs_of a x) (λ y i. place_kept x y ns (row-each a x None (stubs_of a x) None t.row y i).1) k.0 k.1 k.2 t

    stubs_s : stubs_of b s ≡ stubs_of a s ++ d ∷ []
    stubs_s = threaded_is b s _ (threaded_s a b d s (stubs_of a s) can_add link)

    stubs_other : (x : NodeId) → HasNode a x → x ≢ s → stubs_of b x ≡ stubs_of a x
    stubs_other x h ns = threaded_is b x _ (threaded_other x h ns)

    pub all_threaded : AreThreaded b
    all_threaded x h =
        let ha : HasNode a x = sym (like.held x) ∙ h in
        elim (id_cases x s) [
          | inl e ↦ subst (λ y. IsThreaded b y (stubs_of b y)) (sym e) (subst (IsThreaded b s) (sym stubs_s) (threaded_s a b d s (stubs_of a s) can_add link))
          | inr ns ↦ subst (IsThreaded b x) (sym (stubs_other x ha ns)) (threaded_other x ha ns)
        ]

    names_apart : (n m : NodeId) → HasNode a n → HasNode a m → n ≢ m → name_of a n ≢ name_of a m
    names_apart n m hn hm ne e = ne (sound.kept.named.apart n m hn hm e)

    hang_is : (n : NodeId) → HasNode a n → (node (stub (forest_of a) (name_of a d) (name_of a s)) (name_of a n)).hang ≡ (node_of b n).hang
    hang_is n h = elim (id_cases n d) [
      | inl e ↦ stub-hang_d (forest_of a) sound.linked (name_of a d) (name_of a s) bare (names_apart d s hd hs d_s) (name_of a n) (ap (name_of a) e)
          ∙ ap StubOf (sym (like.name s))
          ∙ sym (ap (λ m. hang_by b (cell b m).links.parent (cell b m).links.by_stub) e ∙ ap (λ l. hang_by b l.parent l.by_stub) link.of_d)
      | inr nd ↦ stub-hang (forest_of a) sound.linked (name_of a d) (name_of a s) bare (names_apart d s hd hs d_s) (name_of a n) (names_apart n d h hd nd)
          ∙ ap (λ m. m.hang) (node-forest_of a sound.kept.named n h)
          ∙ sym (ap (λ o. hang_by b o (cell b n).links.by_stub) (up_kept n nd).0 ∙ ap (hang_by b (cell a n).links.parent) (up_kept n nd).1 ∙ hang-like a b like (cell a n).links.parent (cell a n).links.by_stub)
    ]

    stubs_are : (n : NodeId) → HasNode a n → (node (stub (forest_of a) (name_of a d) (name_of a s)) (name_of a n)).stubs ≡ (node_of b n).stubs
    stubs_are n h = elim (id_cases n s) [
      | inl e ↦ subst (λ m. (node (stub (forest_of a) (name_of a d) (name_of a s)) (name_of a m)).stubs ≡ (node_of b m).stubs) (sym e)
          (stub-stubs_s (forest_of a) sound.linked (name_of a d) (name_of a s) bare (names_apart d s hd hs d_s)
          ∙ ap (λ m. m.stubs ++ name_of a d ∷ []) (node-forest_of a sound.kept.named s hs)
          ∙ sym (map-append (name_of a) (stubs_of a s) (d ∷ []))
          ∙ sym (ap (map (name_of b)) stubs_s ∙ map-like a b like (stubs_of a s ++ d ∷ [])))
      | inr ns ↦ stub-stubs (forest_of a) sound.linked (name_of a d) (name_of a s) bare (names_apart d s hd hs d_s) (name_of a n) (names_apart n s h hs ns)
          ∙ ap (λ m. m.stubs) (node-forest_of a sound.kept.named n h)
          ∙ sym (ap (map (name_of b)) (stubs_other n h ns) ∙ map-like a b like (stubs_of a n))
    ]

    node_is : (n : NodeId) → HasNode a n → node (stub (forest_of a) (name_of a d) (name_of a s)) (name_of a n) ≡ node_of b n
    node_is n h = same_node _ (node_of b n)
        (stub-own (forest_of a) sound.linked (name_of a d) (name_of a s) bare (names_apart d s hd hs d_s) (name_of a n) ∙ ap (λ m. m.own) (node-forest_of a sound.kept.named n h) ∙ ap page_of (sym (link.relinked.own n)))
        (hang_is n h)
        (stub-tree (forest_of a) sound.linked (name_of a d) (name_of a s) bare (names_apart d s hd hs d_s) (name_of a n) ∙ ap (λ m. m.tree) (node-forest_of a sound.kept.named n h)
        ∙ sym (ap (map (name_of b)) (link.relinked.tree n) ∙ map-like a b like (cell a n).tree))
        (stubs_are n h)

    pub forest_is : forest_of b ≡ stub (forest_of a) (name_of a d) (name_of a s)
    forest_is = reads_like a b sound.kept.named like link.relinked.made (stub (forest_of a) (name_of a d) (name_of a s))
        (sym link.relinked.made ∙ sym (stub-made_is (forest_of a) (name_of a d) (name_of a s) ∙ forest_of-made a)) (sym link.relinked.copies ∙ sym (stub-copies_is (forest_of a) (name_of a d) (name_of a s) ∙ forest_of-copies a))
        (stub-names (forest_of a) sound.linked (name_of a d) (name_of a s) bare (names_apart d s hd hs d_s) (IsNode-forest_of a sound.kept.named d hd) (IsNode-forest_of a sound.kept.named s hs))
        node_is

    pub sound_after : IsSound b
    sound_after = record {
      kept = record {
        named = named-like a b sound.kept.named like link.relinked.made;
        listed = listed-like a b sound.kept.listed like;
        parents = λ n p h up. let ha : HasNode a n = sym (like.held n) ∙ h in elim (id_cases n d) [
          | inl e ↦ like.held p ∙ subst (HasNode a) (let two : Some s ≡ Some p = sym (ap (λ m. (cell b m).links.parent) e ∙ ap (λ l. l.parent) link.of_d) ∙ up in cc two) hs
          | inr nd ↦ like.held p ∙ sound.kept.parents n p ha (sym (up_kept n nd).0 ∙ up)
        ];
        children = λ n m h i. like.held m ∙ sound.kept.children n m (sym (like.held n) ∙ h) (subst (λ ts. m ∈ ts) (link.relinked.tree n) i);
        threaded = all_threaded;
      };
      linked = subst IsLinked (sym forest_is) (stub-linked (forest_of a) sound.linked (name_of a d) (name_of a s) bare (names_apart d s hd hs d_s));
    }

pub adds : (a : Arena) (sound : IsSound a) (d s : NodeId) (hd : HasNode a d) (hs : HasNode a s) (bare : node (forest_of a) (name_of a d) ≡ childless None Root) (d_s : d ≢ s)
    → Added a (added a d s (cell a s).links.last) d s (cell a s).links.last
adds a sound d s hd hs bare d_s = added-Added a d s (cell a s).links.last hd hs (last_held a sound d s hd hs bare d_s) d_s (last_far a sound d s hd hs bare d_s)
