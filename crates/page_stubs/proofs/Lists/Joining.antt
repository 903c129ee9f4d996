-- One list of stubs behind another: what it does to the links and to the lists.
use Rattle.std.proofs.Common.{◌≡◌, ◌≢◌, ◌⊎◌, ℕ, ◌+◌, List, [], ◌∷◌, ◌++◌, length, Option, Some, None, refl, sym, ap, ◌∙◌, subst, inl, inr, length-append}
use Rattle.std.specs.Option.{option_or}
use Rattle.vm_ids.specs.declared.numbers.NodeId.{NodeId}
use Rattle.local_cache.specs.declared.links.Links.{Links}
use Rattle.local_cache.specs.Arena.{Arena, cell, HasNode}
use Rattle.local_cache.specs.Threads.{head_or, last_or, Row, IsThreaded}
use Rattle.local_cache.specs.Sound.{◌∈◌}
use Rattle.local_cache.specs.Changes.{Relinked, Once}
use Rattle.local_cache.proofs.Forest.StubRows.{row-front, row-rear, row-join, row-each, threaded-kept, ends, last_or-end, last_or-append, last_in}
use Rattle.local_cache.proofs.Forest.StubRows.Ends.{IsNone, EndsBy}
use Rattle.local_cache.proofs.Changes.SameNodes.{relinked, relinked_then, links-with_links, links-with_links_other, id_cases}
use Rattle.page_stubs.specs.Handing.{Handed}
use Rattle.page_stubs.specs.Threading.{IsHeldIf, with_behind, with_before, with_ends, joined}
use Rattle.page_stubs.proofs.Lists.Cut.{once-apart, in_left}
use Rattle.page_stubs.proofs.Lists.Links.{held_if, behind_relinked, before_relinked, links-col, behind-col, before-col, behind_at, behind_other, before_at, before_other}

-- Lists

pub in_ids : (ys : List NodeId) (m : NodeId) → (m ∈ ys) ⊎ (m ∈ ys → ⊥)
in_ids [] m = inr (λ i. i)
in_ids (y ∷ ys) m = elim (id_cases m y) [
  | inl e ↦ inl (inl e)
  | inr apart ↦ elim (in_ids ys m) [ inl i ↦ inl (inr i) | inr out ↦ inr (λ i. elim i [ inl e ↦ apart e | inr j ↦ out j ]) ]
]

pub head_in : (ys : List NodeId) (y : NodeId) → head_or ys None ≡ Some y → y ∈ ys
head_in [] y e = absurd (cc e)
head_in (z ∷ ys) y e = let same : z ≡ y = cc e in inl (sym same)

pub last_some : (us : List NodeId) (u : NodeId) → (l : NodeId) × (last_or us (Some u) ≡ Some l)
last_some [] u = (u, refl)
last_some (v ∷ us) u = last_some us v

head_joined : (zs ys : List NodeId) → option_or (head_or zs None) (head_or ys None) ≡ head_or (zs ++ ys) None
head_joined [] ys = refl
head_joined (z ∷ zs) ys = refl

last_by : (ys : List NodeId) (o : Option NodeId) → option_or (last_or ys None) o ≡ last_or ys o
last_by [] o = refl
last_by (y ∷ ys) o = let l = last_some ys y in ap (λ k. option_or k o) l.1 ∙ sym l.1

pub if_held : (a : Arena) (o : Option NodeId) → ((m : NodeId) → o ≡ Some m → HasNode a m) → IsHeldIf a o
if_held a None all = tt
if_held a (Some m) all = all m refl

-- y is a stub of x now, between the same neighbours
pub record Moved (a b : Arena) (y x : NodeId) : Type 0 where
  pub held : HasNode b y
  pub parent : (cell b y).links.parent ≡ Some x
  pub by_stub : (cell b y).links.by_stub ≡ (cell a y).links.by_stub
  pub before : (cell b y).links.before ≡ (cell a y).links.before
  pub behind : (cell b y).links.behind ≡ (cell a y).links.behind

pub row-moved : (a b : Arena) (x w : NodeId) (o : Option NodeId) (ys : List NodeId) (e : Option NodeId) → ((y : NodeId) → y ∈ ys → Moved a b y w) → Row a x o ys e → Row b w o ys e
row-moved a b x w o [] e all row = tt
row-moved a b x w o (y ∷ ys) e all row =
    let m = all y (inl refl) in (
      record { held = m.held; parent = m.parent; by_stub = m.by_stub ∙ row.0.by_stub; has_before = m.before ∙ row.0.has_before; has_behind = m.behind ∙ row.0.has_behind },
      row-moved a b x w (Some y) ys e (λ z i. all z (inr i)) row.1,
    )

-- The steps of the code

abbrev word : Arena → NodeId → NodeId → Option NodeId → Option NodeId → Option NodeId → Option NodeId → ℕ → Arena
word b from to l f first last k = with_ends (with_ends (with_before (with_behind b l f) f l) to first last k) from None None 0

module _ (b : Arena) (from to : NodeId) (apart : to ≢ from) (l f first last : Option NodeId) (k : ℕ) where
  abbrev b1 : Arena
  b1 = with_behind b l f

  abbrev b2 : Arena
  b2 = with_before b1 f l

  abbrev b3 : Arena
  b3 = with_ends b2 to first last k

  abbrev w : Arena
  w = with_ends b3 from None None 0

  word-parent : (m : NodeId) → (cell (word b from to l f first last k) m).links.parent ≡ (cell b m).links.parent
  word-parent m = links-col (λ l. l.parent) b3 from _ m refl ∙ links-col (λ l. l.parent) b2 to _ m refl ∙ before-col (λ l. l.parent) (λ l o. refl) b1 f l m ∙ behind-col (λ l. l.parent) (λ l o. refl) b l f m

  word-by_stub : (m : NodeId) → (cell (word b from to l f first last k) m).links.by_stub ≡ (cell b m).links.by_stub
  word-by_stub m = links-col (λ l. l.by_stub) b3 from _ m refl ∙ links-col (λ l. l.by_stub) b2 to _ m refl ∙ before-col (λ l. l.by_stub) (λ l o. refl) b1 f l m ∙ behind-col (λ l. l.by_stub) (λ l o. refl) b l f m

  late_behind : (m : NodeId) → (cell (word b from to l f first last k) m).links.behind ≡ (cell (with_behind b l f) m).links.behind
  late_behind m = links-col (λ l. l.behind) b3 from _ m refl ∙ links-col (λ l. l.behind) b2 to _ m refl ∙ before-col (λ l. l.behind) (λ l o. refl) b1 f l m

  late_before : (m : NodeId) → (cell (word b from to l f first last k) m).links.before ≡ (cell (with_before (with_behind b l f) f l) m).links.before
  late_before m = links-col (λ l. l.before) b3 from _ m refl ∙ links-col (λ l. l.before) b2 to _ m refl

  word-behind_at : (m : NodeId) → l ≡ Some m → (cell (word b from to l f first last k) m).links.behind ≡ f
  word-behind_at m e = late_behind m ∙ behind_at b l f m e

  word-behind_other : (m : NodeId) → (l ≡ Some m → ⊥) → (cell (word b from to l f first last k) m).links.behind ≡ (cell b m).links.behind
  word-behind_other m ne = late_behind m ∙ behind_other b l f m ne

  word-before_at : (m : NodeId) → f ≡ Some m → (cell (word b from to l f first last k) m).links.before ≡ l
  word-before_at m e = late_before m ∙ before_at b1 f l m e

  word-before_other : (m : NodeId) → (f ≡ Some m → ⊥) → (cell (word b from to l f first last k) m).links.before ≡ (cell b m).links.before
  word-before_other m ne = late_before m ∙ before_other b1 f l m ne ∙ behind-col (λ l. l.before) (λ l o. refl) b l f m

  word-from : (cell (word b from to l f first last k) from).links ≡ record (cell b3 from).links { first = None; last = None; stubs = 0 }
  word-from = links-with_links b3 from _

  word-to : (cell (word b from to l f first last k) to).links ≡ record (cell b2 to).links { first = first; last = last; stubs = k }
  word-to = links-with_links_other b3 from to _ apart ∙ links-with_links b2 to _

  word-other : {A : Type 0} (col : Links → A) → ((l : Links) (o : Option NodeId) → col (record l { behind = o }) ≡ col l) → ((l : Links) (o : Option NodeId) → col (record l { before = o }) ≡ col l)
      → (m : NodeId) → m ≢ to → m ≢ from → col (cell (word b from to l f first last k) m).links ≡ col (cell b m).links
  word-other col one two m nt nf = ap col (links-with_links_other b3 from m _ nf) ∙ ap col (links-with_links_other b2 to m _ nt) ∙ before-col col two b1 f l m ∙ behind-col col one b l f m

  word-relinked : IsHeldIf b l → IsHeldIf b f → HasNode b to → HasNode b from → Relinked b (word b from to l f first last k)
  word-relinked hl hf ht hr =
      let r1 = behind_relinked b l f hl in
      let r2 = relinked_then b b1 b2 r1 (before_relinked b1 f l (held_if b b1 f r1.like hf)) in
      let r3 = relinked_then b b2 b3 r2 (relinked b2 to _ (r2.like.held to ∙ ht)) in
      relinked_then b b3 w r3 (relinked b3 from _ (r3.like.held from ∙ hr))

-- Against the caches before the stubs were given another parent

pub record Joined (a c : Arena) (from to : NodeId) (ys zs : List NodeId) : Type 0 where
  pub links : Relinked a c
  pub parent_in : (m : NodeId) → m ∈ ys → (cell c m).links.parent ≡ Some to
  pub parent_out : (m : NodeId) → (m ∈ ys → ⊥) → (cell c m).links.parent ≡ (cell a m).links.parent
  pub by_stub : (m : NodeId) → (cell c m).links.by_stub ≡ (cell a m).links.by_stub
  pub behind_at : (m : NodeId) → last_or zs None ≡ Some m → (cell c m).links.behind ≡ head_or ys None
  pub behind_other : (m : NodeId) → (last_or zs None ≡ Some m → ⊥) → (cell c m).links.behind ≡ (cell a m).links.behind
  pub before_at : (m : NodeId) → head_or ys None ≡ Some m → (cell c m).links.before ≡ last_or zs None
  pub before_other : (m : NodeId) → (head_or ys None ≡ Some m → ⊥) → (cell c m).links.before ≡ (cell a m).links.before
  pub from_first : (cell c from).links.first ≡ None
  pub from_last : (cell c from).links.last ≡ None
  pub from_count : (cell c from).links.stubs ≡ 0
  pub to_first : (cell c to).links.first ≡ head_or (zs ++ ys) None
  pub to_last : (cell c to).links.last ≡ last_or (zs ++ ys) None
  pub to_count : (cell c to).links.stubs ≡ length (zs ++ ys)
  pub other_first : (m : NodeId) → m ≢ to → m ≢ from → (cell c m).links.first ≡ (cell a m).links.first
  pub other_last : (m : NodeId) → m ≢ to → m ≢ from → (cell c m).links.last ≡ (cell a m).links.last
  pub other_count : (m : NodeId) → m ≢ to → m ≢ from → (cell c m).links.stubs ≡ (cell a m).links.stubs

module _ (a b : Arena) (from to : NodeId) (apart : to ≢ from) (hf : HasNode a from) (ht : HasNode a to) (ys zs : List NodeId) (t_from : IsThreaded a from ys) (t_to : IsThreaded a to zs) (handed : Handed a b ys to) where
  handed-col : {A : Type 0} (col : Links → A) → ((l : Links) (o : Option NodeId) → col (record l { parent = o }) ≡ col l) → (m : NodeId) → col (cell b m).links ≡ col (cell a m).links
  handed-col col same m = elim (in_ids ys m) [ inl i ↦ ap col (handed.done m i) ∙ same _ _ | inr out ↦ ap col (handed.rest m out) ]

  pub own_last : (cell b to).links.last ≡ last_or zs None
  own_last = handed-col (λ l. l.last) (λ l o. refl) to ∙ t_to.last

  pub given_first : (cell b from).links.first ≡ head_or ys None
  given_first = handed-col (λ l. l.first) (λ l o. refl) from ∙ t_from.first

  pub own_count : (cell b to).links.stubs ≡ length zs
  own_count = handed-col (λ l. l.stubs) (λ l o. refl) to ∙ t_to.count

  pub given_count : (cell b from).links.stubs ≡ length ys
  given_count = handed-col (λ l. l.stubs) (λ l o. refl) from ∙ t_from.count

  held_b : (n : NodeId) → HasNode a n → HasNode b n
  held_b n h = handed.relinked.like.held n ∙ h

  pub last_held : IsHeldIf b (last_or zs None)
  last_held = if_held b (last_or zs None) (λ m e. held_b m (row-each a to None zs None t_to.row m (last_in zs m e)).0)

  pub first_held : IsHeldIf b (head_or ys None)
  first_held = if_held b (head_or ys None) (λ m e. held_b m (row-each a from None ys None t_from.row m (head_in ys m e)).0)

  first : Option NodeId
  first = option_or (head_or zs None) (head_or ys None)

  last : Option NodeId
  last = option_or (last_or ys None) (last_or zs None)

  joined_is : joined b from to ≡ word b from to (last_or zs None) (head_or ys None) (option_or (head_or zs None) (head_or ys None)) (option_or (last_or ys None) (last_or zs None)) (length zs + length ys)
  joined_is = λ i. word b from to (own_last i) (given_first i)
      (option_or ((handed-col (λ l. l.first) (λ l o. refl) to ∙ t_to.first) i) (given_first i))
      (option_or ((handed-col (λ l. l.last) (λ l o. refl) from ∙ t_from.last) i) (own_last i))
      (own_count i + given_count i)

  word_joined : Joined a (word b from to (last_or zs None) (head_or ys None) (option_or (head_or zs None) (head_or ys None)) (option_or (last_or ys None) (last_or zs None)) (length zs + length ys)) from to ys zs
  word_joined =
      let l : Option NodeId = last_or zs None in
      let f : Option NodeId = head_or ys None in
      let first : Option NodeId = option_or (head_or zs None) (head_or ys None) in
      let last : Option NodeId = option_or (last_or ys None) (last_or zs None) in
      let k : ℕ = length zs + length ys in
      record {
        links = relinked_then a b _ handed.relinked (word-relinked b from to apart l f first last k last_held first_held (held_b to ht) (held_b from hf));
        parent_in = λ m i. word-parent b from to apart l f first last k m ∙ ap (λ k. k.parent) (handed.done m i);
        parent_out = λ m out. word-parent b from to apart l f first last k m ∙ ap (λ k. k.parent) (handed.rest m out);
        by_stub = λ m. word-by_stub b from to apart l f first last k m ∙ handed-col (λ l. l.by_stub) (λ l o. refl) m;
        behind_at = word-behind_at b from to apart l f first last k;
        behind_other = λ m ne. word-behind_other b from to apart l f first last k m ne ∙ handed-col (λ l. l.behind) (λ l o. refl) m;
        before_at = word-before_at b from to apart l f first last k;
        before_other = λ m ne. word-before_other b from to apart l f first last k m ne ∙ handed-col (λ l. l.before) (λ l o. refl) m;
        from_first = ap (λ l. l.first) (word-from b from to apart l f first last k);
        from_last = ap (λ l. l.last) (word-from b from to apart l f first last k);
        from_count = ap (λ l. l.stubs) (word-from b from to apart l f first last k);
        to_first = ap (λ l. l.first) (word-to b from to apart l f first last k) ∙ head_joined zs ys;
        to_last = ap (λ l. l.last) (word-to b from to apart l f first last k) ∙ last_by ys l ∙ sym (last_or-append zs ys None);
        to_count = ap (λ l. l.stubs) (word-to b from to apart l f first last k) ∙ sym (length-append zs ys);
        other_first = λ m nt nf. word-other b from to apart l f first last k (λ l. l.first) (λ l o. refl) (λ l o. refl) m nt nf ∙ handed-col (λ l. l.first) (λ l o. refl) m;
        other_last = λ m nt nf. word-other b from to apart l f first last k (λ l. l.last) (λ l o. refl) (λ l o. refl) m nt nf ∙ handed-col (λ l. l.last) (λ l o. refl) m;
        other_count = λ m nt nf. word-other b from to apart l f first last k (λ l. l.stubs) (λ l o. refl) (λ l o. refl) m nt nf ∙ handed-col (λ l. l.stubs) (λ l o. refl) m;
      }

  pub joins : Joined a (joined b from to) from to ys zs
  joins = subst (λ c. Joined a c from to ys zs) (sym joined_is) word_joined

-- The lists

module _ (a c : Arena) (from to : NodeId) (apart : to ≢ from) (ys zs : List NodeId) (t_from : IsThreaded a from ys) (t_to : IsThreaded a to zs) (once_ys : Once ys) (once_zs : Once zs) (join : Joined a c from to ys zs) where
  held : (n : NodeId) → HasNode a n → HasNode c n
  held n h = join.links.like.held n ∙ h

  in_from : (m : NodeId) → m ∈ ys → (cell a m).links.parent ≡ Some from
  in_from m i = (row-each a from None ys None t_from.row m i).1

  in_to : (m : NodeId) → m ∈ zs → (cell a m).links.parent ≡ Some to
  in_to m i = (row-each a to None zs None t_to.row m i).1

  two_parents : (m x w : NodeId) → (cell a m).links.parent ≡ Some x → (cell a m).links.parent ≡ Some w → x ≡ w
  two_parents m x w u v = (let two : Some x ≡ Some w = sym u ∙ v in cc two)

  rear : (us : List NodeId) → ys ≡ us → Row c to (last_or zs None) us None
  rear [] e = tt
  rear (r ∷ rs) e =
      let was : Row a from None (r ∷ rs) None = subst (λ us. Row a from None us None) e t_from.row in
      let once : Once (r ∷ rs) = subst Once e once_ys in
      let inside : (z : NodeId) → z ∈ (r ∷ rs) → z ∈ ys = λ z i. subst (λ us. z ∈ us) (sym e) i in
      let not_last : (z : NodeId) → z ∈ (r ∷ rs) → last_or zs None ≡ Some z → ⊥ = λ z i q. apart (two_parents z to from (in_to z (last_in zs z q)) (in_from z (inside z i))) in
      let kept : (z : NodeId) → z ∈ rs → Moved a c z to = λ z i. record {
        held = held z (row-each a from (Some r) rs None was.1 z i).0;
        parent = join.parent_in z (inside z (inr i));
        by_stub = join.by_stub z;
        before = join.before_other z (λ q. (let two : Some r ≡ Some z = sym (ap (λ us. head_or us None) e) ∙ q in let same : r ≡ z = cc two in once.0 (subst (λ k. k ∈ rs) (sym same) i)));
        behind = join.behind_other z (not_last z (inr i));
      } in (
        record {
          held = held r was.0.held;
          parent = join.parent_in r (inside r (inl refl));
          by_stub = join.by_stub r ∙ was.0.by_stub;
          has_before = join.before_at r (ap (λ us. head_or us None) e);
          has_behind = join.behind_other r (not_last r (inl refl)) ∙ was.0.has_behind;
        },
        row-moved a c from to (Some r) rs None kept was.1,
      )

  stays : (z : NodeId) → z ∈ zs → z ∈ ys → ⊥
  stays z i j = apart (two_parents z to from (in_to z i) (in_from z j))

  not_first : (z : NodeId) → z ∈ zs → head_or ys None ≡ Some z → ⊥
  not_first z i q = stays z i (head_in ys z q)

  front : Row c to None zs (head_or ys None)
  front = elim (ends zs) [
    | IsNone e ↦ subst (λ us. Row c to None us (head_or ys None)) (sym e) tt
    | EndsBy us l e ↦
        let was : Row a to None (us ++ l ∷ []) None = subst (λ vs. Row a to None vs None) e t_to.row in
        let at_l = (row-rear a to None us (l ∷ []) None was).0 in
        let last_l : last_or zs None ≡ Some l = ap (λ vs. last_or vs None) e ∙ last_or-end us l None in
        let inside : (z : NodeId) → z ∈ (us ++ l ∷ []) → z ∈ zs = λ z i. subst (λ vs. z ∈ vs) (sym e) i in
        let l_in = last_in zs l last_l in
        let kept : (z : NodeId) → z ∈ us → Moved a c z to = λ z i.
        let z_in = inside z (in_left us (l ∷ []) z i) in
        record {
          held = held z (row-each a to None zs None t_to.row z z_in).0;
          parent = join.parent_out z (stays z z_in) ∙ in_to z z_in;
          by_stub = join.by_stub z;
          before = join.before_other z (not_first z z_in);
          behind = join.behind_other z (λ q. (let two : Some l ≡ Some z = sym last_l ∙ q in let same : l ≡ z = cc two in once-apart us (l ∷ []) (subst Once e once_zs) z i (inl (sym same))));
        } in
        subst (λ vs. Row c to None vs (head_or ys None)) (sym e)
        (row-join c to None us (l ∷ []) (head_or ys None)
        (row-moved a c to to None us (Some l) kept (row-front a to None us (l ∷ []) None was)) (
          record {
            held = held l at_l.held;
            parent = join.parent_out l (stays l l_in) ∙ at_l.parent;
            by_stub = join.by_stub l ∙ at_l.by_stub;
            has_before = join.before_other l (not_first l l_in) ∙ at_l.has_before;
            has_behind = join.behind_at l last_l;
          },
          tt,
        ))
  ]

  pub threaded_to : IsThreaded c to (zs ++ ys)
  threaded_to = record { row = row-join c to None zs ys None front (rear ys refl); first = join.to_first; last = join.to_last; count = join.to_count }

  pub threaded_from : IsThreaded c from []
  threaded_from = record { row = tt; first = join.from_first; last = join.from_last; count = join.from_count }

  pub threaded_other : (x : NodeId) (us : List NodeId) → x ≢ to → x ≢ from → IsThreaded a x us → IsThreaded c x us
  threaded_other x us nt nf t = threaded-kept a c x us
      (λ y i.
      let up = (row-each a x None us None t.row y i).1 in
      let out : y ∈ ys → ⊥ = λ j. nf (two_parents y x from up (in_from y j)) in
      record {
        held = held y;
        parent = join.parent_out y out;
        by_stub = join.by_stub y;
        before = join.before_other y (λ q. out (head_in ys y q));
        behind = join.behind_other y (λ q. nt (two_parents y x to up (in_to y (last_in zs y q))));
      })
      (join.other_first x nt nf) (join.other_last x nt nf) (join.other_count x nt nf) t
