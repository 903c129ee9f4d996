-- Which translations are dropped while each page stays, and over two moments.
use Rattle.std.proofs.Common.{◌≡◌, ◌⊎◌, ℕ, ◌||◌, Bool, true, false, not, List, Option, Some, None, is_some, option_map, refl, sym, ap, ◌∙◌, inl, inr}
use Rattle.std.proofs.lemmas.Bool.{false≢true}
use Rattle.vm_ids.specs.declared.node_name.NodeName.{NodeName}
use Rattle.vm_ids.specs.declared.numbers.NodeId.{NodeId}
use Rattle.vm_ids.specs.Held.{Held}
use Rattle.vm_ids.specs.Forest.Nodes.{node}
use Rattle.vm_ids.specs.Forest.PageMap.{bare, no_page}
use Rattle.vm_ids.specs.Forest.Reading.{value_of}
use Rattle.vm_ids.specs.Forest.Rules.{heir}
use Rattle.vm_ids.proofs.Forest.PageMap.{heir-map, is_some-map, own-map}
use Rattle.global_map.specs.Pairs.{is_node, node_of}
use Rattle.global_map.proofs.Places.{the_node}
use Rattle.local_cache.specs.Arena.{Arena}
use Rattle.local_cache.specs.Reading.{forest_of}
use Rattle.local_cache.specs.ReadingBy.{state_page}
use Rattle.local_cache.proofs.Forest.Reading.{forest_of-by}
use Rattle.local_cache.proofs.Nodes.OwnStates.{id_cases}
use Rattle.residency.specs.declared.store.Store.{Store}
use Rattle.residency.specs.Seeing.{IsAlone, seen_in}
use Rattle.residency.specs.Translating.{Drops, TablesAfter, loses, lost, without}
use Rattle.residency.specs.World.{ArePlaced, IsTied, OthersStay, OthersStayBut, PagesStay, SameNodes, world}
use Rattle.residency.proofs.Forests.StillForest.{same_forest_by}
use Rattle.residency.proofs.Translations.Dropped.{twice}
use Rattle.residency.proofs.Translations.Lost.{loses_same, tables_same}
use Rattle.residency.proofs.Translations.Owners.{by-map, number_page, owner_seen, owners, seen_owner}
use Rattle.residency.proofs.Worlds.Nodes.{same}
use Rattle.residency.proofs.Worlds.Telling.{tells}

-- a page that is seen in a frame is seen there still, where its owner owns it still, and is there
-- still
pub seen_still : (a b : Arena) (s t : Store) → ArePlaced a s.frames s.slots s.map → ArePlaced b t.frames t.slots t.map → (x : NodeName) (f : ℕ)
    → ((n : NodeId) → value_of (owners a) x ≡ Some n → node_of s.map f ≡ Some n → (value_of (owners b) x ≡ Some n) × (node_of t.map f ≡ Some n))
    → seen_in a s.map x ≡ Some f → seen_in b t.map x ≡ Some f
seen_still a b s t was is x f stays seen =
    let o = seen_owner a s.frames s.slots s.map was x f seen in
    let k = stays o.owner o.owns o.at in
    owner_seen b t.frames t.slots t.map is x f (record { owner = o.owner; owns = k.0; at = k.1 })

-- a frame that lost no node has the one that it had
pub kept_node : (n : NodeId) (x y : Option NodeId) → loses x y ≡ false → x ≡ Some n → y ≡ Some n
kept_node n None y h e = absurd (cc e)
kept_node n (Some v) y h e =
    let same : v ≡ n = cc e in
    the_node y n (ap (λ (m : NodeId). is_node m.0 y) (sym same) ∙ turned (is_node v.0 y) h)
  where
    turned : (b : Bool) → not b ≡ false → b ≡ true
    turned true h = refl
    turned false h = absurd (false≢true (sym h))

alike_page : {P Q : Type 0} (n : NodeId) (o : Option P) (p : Option Q) → is_some o ≡ is_some p → option_map (λ _. n) o ≡ option_map (λ _. n) p
alike_page n None None e = refl
alike_page n (Some v) (Some w) e = refl
alike_page n None (Some w) e = absurd (cc e)
alike_page n (Some v) None e = absurd (cc e)

module _ (a b : Arena) (same : SameNodes a b) (alike : (n : NodeId) → is_some (state_page b n) ≡ is_some (state_page a n)) where
  -- where own states alone changed, each page has the owner that it had
  pub owners_same : owners b ≡ owners a
  unfolding owners
  owners_same = same_forest_by a b same (number_page a) (number_page b) (λ n. alike_page n (state_page b n) (state_page a n) (alike n))

  pub bare_same : bare (forest_of b) ≡ bare (forest_of a)
  bare_same = ap bare (forest_of-by b) ∙ by-map no_page (state_page b) b
      ∙ same_forest_by a b same (λ n. option_map no_page (state_page a n)) (λ n. option_map no_page (state_page b n)) (λ n. no_pages (state_page b n) (state_page a n) (alike n))
      ∙ sym (by-map no_page (state_page a) a) ∙ sym (ap bare (forest_of-by a))
    where
      no_pages : {P Q : Type 0} (o : Option P) (p : Option Q) → is_some o ≡ is_some p → option_map no_page o ≡ option_map no_page p
      no_pages None None e = refl
      no_pages (Some v) (Some w) e = refl
      no_pages None (Some w) e = absurd (cc e)
      no_pages (Some v) None e = absurd (cc e)

-- a page that is a node's alone is so in each forest that is the same but for its pages
pub alone_bare : (a b : Arena) → bare (forest_of b) ≡ bare (forest_of a) → (x : NodeName) → IsAlone a x → IsAlone b x
alone_bare a b same x p = record {
  owned = sym (is_some-map no_page (node (forest_of b) x).own) ∙ ap is_some (sym (own-map no_page (forest_of b) x)) ∙ ap (λ f. is_some (node f x).own) same
      ∙ ap is_some (own-map no_page (forest_of a) x) ∙ is_some-map no_page (node (forest_of a) x).own ∙ p.owned;
  last = sym (heir-map no_page (forest_of b) x) ∙ ap (λ f. heir f x) same ∙ heir-map no_page (forest_of a) x ∙ p.last;
}

module _ (a b : Arena) (s t : Store) where
  -- where own states alone changed, and frames that lost their nodes alone are dropped
  pub kept_drops : (came : NodeId → Type 0) → ArePlaced a s.frames s.slots s.map → ArePlaced b t.frames t.slots t.map → SameNodes a b → ((n : NodeId) → is_some (state_page b n) ≡ is_some (state_page a n))
      → TablesAfter s t → ((f : ℕ) (n : NodeId) → node_of t.map f ≡ Some n → (node_of s.map f ≡ Some n) ⊎ came n) → Drops came a s b t
  kept_drops came was is same alike tables comes = record {
    frames = lost s.map t.map;
    tables = tables;
    seen = λ x f kept. seen_still a b s t was is x f (λ n owns at. (
      ap (λ g. value_of g x) (owners_same a b same alike) ∙ owns,
      kept_node n (node_of s.map f) (node_of t.map f) kept at,
    ));
    alone = alone_bare a b (bare_same a b same alike);
    only = λ f n h at. inl h;
    comes = comes;
  }

some_bound : (m : List (Option NodeId)) (f : ℕ) (n : NodeId) → node_of m f ≡ Some n → is_some (node_of m f) ≡ true
some_bound m f n e = ap is_some e

module _ (told now : Option Held) (size then : Option ℕ) (a b : Arena) (s t : Store) (tied : IsTied (world told size a s)) (stays : PagesStay (world told size a s) (world now then b t)) (tables : TablesAfter s t) where
  pub same_pages : (n : NodeId) → is_some (state_page b n) ≡ is_some (state_page a n)
  same_pages n = sym (tells (world now then b t) n) ∙ ap is_some (stays.pages n) ∙ tells (world told size a s) n

  pub stays_drops : (came : NodeId → Type 0) → ((f : ℕ) (n : NodeId) → node_of t.map f ≡ Some n → (node_of s.map f ≡ Some n) ⊎ came n) → Drops came a s b t
  stays_drops came comes = kept_drops a b s t came tied.placed stays.right.tied.placed stays.caches same_pages tables comes

  -- while pages leave their frames alone
  pub still_drops : OthersStay (world told size a s) (world now then b t) → Drops (λ n. ⊥) a s b t
  still_drops others = stays_drops (λ n. ⊥) (λ f n at. inl (sym (others.frames f (some_bound t.map f n at)).node ∙ at))

  -- while node n may come to a frame
  pub still_drops_but : (n : NodeId) → OthersStayBut n (world told size a s) (world now then b t) → Drops (λ m. m ≡ n) a s b t
  still_drops_but n others = stays_drops (λ m. m ≡ n) (λ f m at. elim (id_cases m n) [
    | inl e ↦ inr e
    | inr d ↦ inl (sym (others.frames f (some_bound t.map f m at) (λ e. d (let q : Some m ≡ Some n = sym at ∙ e in cc q))).node ∙ at)
  ])

-- stores with these maps and tables
pub drops_by : (came : NodeId → Type 0) (a b : Arena) (s t s' t' : Store) → s'.map ≡ s.map → s'.tables ≡ s.tables → t'.map ≡ t.map → t'.tables ≡ t.tables → Drops came a s b t → Drops came a s' b t'
drops_by came a b s t s' t' first first_tables then then_tables p = record {
  frames = p.frames;
  tables = then_tables ∙ p.tables ∙ ap (without p.frames) (sym first_tables);
  seen = λ x f kept seen. ap (λ m. seen_in b m x) then ∙ p.seen x f kept (ap (λ m. seen_in a m x) (sym first) ∙ seen);
  alone = p.alone;
  only = λ f n h at. elim (p.only f n h (ap (λ (m : List (Option NodeId)). node_of m f) (sym first) ∙ at)) [
    | inl gone ↦ inl ((λ i. lost (first i) (then i) f) ∙ gone)
    | inr came ↦ inr came
  ];
  comes = λ f n at. elim (p.comes f n (ap (λ (m : List (Option NodeId)). node_of m f) (sym then) ∙ at)) [
    | inl there ↦ inl (ap (λ (m : List (Option NodeId)). node_of m f) first ∙ there)
    | inr came ↦ inr came
  ];
}

-- more nodes may come
pub drops_more : (came came' : NodeId → Type 0) (a b : Arena) (s t : Store) → ((n : NodeId) → came n → came' n) → Drops came a s b t → Drops came' a s b t
drops_more came came' a b s t more p = record {
  frames = p.frames;
  tables = p.tables;
  seen = p.seen;
  alone = p.alone;
  only = λ f n h at. elim (p.only f n h at) [ inl gone ↦ inl gone | inr c ↦ inr (more n c) ];
  comes = λ f n at. elim (p.comes f n at) [ inl there ↦ inl there | inr c ↦ inr (more n c) ];
}

pub or_cases : (b c : Bool) → (b || c) ≡ true → (b ≡ true) ⊎ (c ≡ true)
or_cases true c h = inl refl
or_cases false c h = inr h

neither : (b c : Bool) → (b || c) ≡ false → (b ≡ false) × (c ≡ false)
neither true c h = absurd (false≢true (sym h))
neither false c h = (refl, h)

lost_or : (o : Option NodeId) (n : NodeId) (z : Option NodeId) → o ≡ Some n → (loses o z ≡ true) ⊎ (z ≡ Some n)
lost_or o n z at = go (loses o z) refl
  where
    go : (b : Bool) → loses o z ≡ b → (loses o z ≡ true) ⊎ (z ≡ Some n)
    go true e = inl e
    go false e = inr (kept_node n o z e at)

-- first and then
pub drops_trans : (came came' came'' : NodeId → Type 0) (a b c : Arena) (s t u : Store) → ((n : NodeId) → came n → came'' n) → ((n : NodeId) → came' n → came'' n) → Drops came a s b t → Drops came' b t c u → Drops came'' a s c u
drops_trans came came' came'' a b c s t u more more' p q = record {
  frames = λ f. p.frames f || q.frames f;
  tables = q.tables ∙ ap (without q.frames) p.tables ∙ twice p.frames q.frames s.tables;
  seen = λ x f kept seen. (
      let k = neither (p.frames f) (q.frames f) kept in
      q.seen x f k.1 (p.seen x f k.0 seen));
  alone = λ x h. q.alone x (p.alone x h);
  only = λ f n h at. elim (or_cases (p.frames f) (q.frames f) h) [
    | inl first ↦ elim (p.only f n first at) [
      | inl gone ↦ gone_then f n at gone
      | inr came ↦ inr (more n came)
    ]
    | inr second ↦ elim (lost_or (node_of s.map f) n (node_of t.map f) at) [
      | inl gone ↦ gone_then f n at gone
      | inr there ↦ elim (q.only f n second there) [
        | inl gone ↦ inl (ap (λ (o : Option NodeId). loses o (node_of u.map f)) (at ∙ sym there) ∙ gone)
        | inr came ↦ inr (more' n came)
      ]
    ]
  ];
  comes = λ f n at. elim (q.comes f n at) [
    | inl there ↦ elim (p.comes f n there) [ inl first ↦ inl first | inr came ↦ inr (more n came) ]
    | inr came ↦ inr (more' n came)
  ];
}
  where
    gone_then : (f : ℕ) (n : NodeId) → node_of s.map f ≡ Some n → lost s.map t.map f ≡ true → (lost s.map u.map f ≡ true) ⊎ came'' n
    gone_then f n at gone = elim (lost_or (node_of s.map f) n (node_of u.map f) at) [
      | inl e ↦ inl e
      | inr back ↦ elim (q.comes f n back) [
        | inl there ↦ absurd (false≢true (sym (loses_none (node_of s.map f) (node_of t.map f) n at there) ∙ gone))
        | inr came ↦ inr (more' n came)
      ]
    ]
      where
        loses_none : (x y : Option NodeId) (n : NodeId) → x ≡ Some n → y ≡ Some n → loses x y ≡ false
        loses_none x y n e k = (λ i. loses (e i) (k i)) ∙ loses_same (Some n)

-- where nothing happens
pub same_drops : (came : NodeId → Type 0) (a : Arena) (s : Store) → ArePlaced a s.frames s.slots s.map → Drops came a s a s
same_drops came a s placed = kept_drops a a s s came placed placed (same a) (λ n. refl) (tables_same s s refl refl) (λ f n at. inl at)
