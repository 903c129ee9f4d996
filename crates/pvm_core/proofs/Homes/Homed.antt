-- Pushes of own pages to their homes are those that the machine may make.
use Rattle.std.proofs.Common.{◌≡◌, ℕ, ◌<◌, true, false, List, [], ◌∷◌, length, map, suc, Option, Some, None, is_some, refl, sym, ap, ◌∙◌, subst, arith}
use Rattle.std.specs.Prelude.{option_map, option_and_then, unwrap_or, IfSome, IsSome}
use Rattle.std.specs.Option.{option_map_or}
use Rattle.std.specs.List.{AllByRecursion}
use Rattle.vm_ids.specs.Counting.{MapperCounts}
use Rattle.vm_ids.specs.Denying.{denies}
use Rattle.vm_ids.specs.Held.{Held, Segments, put_segment_page, segments_of}
use Rattle.vm_ids.specs.declared.node_name.NodeName.{NodeName}
use Rattle.vm_ids.specs.declared.node_name.NodeName.TheVariants.{Live, Working}
use Rattle.vm_ids.specs.declared.numbers.CacheId.{CacheId}
use Rattle.vm_ids.specs.declared.numbers.NodeId.{NodeId}
use Rattle.vm_ids.specs.declared.numbers.PageNo.{PageNo}
use Rattle.vm_ids.specs.declared.numbers.SegId.{SegId}
use Rattle.vm_ids.specs.Forest.Nodes.{IsNode}
use Rattle.vm_ids.specs.Forest.Reading.{value_of}
use Rattle.local_cache.specs.declared.home.Home.{Home}
use Rattle.local_cache.specs.Arena.{Arena, HasNode, Table, find, table_at, table_of}
use Rattle.local_cache.specs.Home.{home_named, home_of}
use Rattle.local_cache.specs.Reading as arena
use Rattle.local_cache.specs.Reading.{name_of}
use Rattle.local_cache.specs.Whole.{IsWhole}
use Rattle.local_cache.proofs.Forest.Reading.{IsNode-forest_of}
use Rattle.local_cache.proofs.Names.Homes.{home_none}
use Rattle.local_cache.proofs.Whole.LivePages.{node_page}
use Rattle.residency.specs.Pushing as homes
use Rattle.residency.specs.Pushing.{HasOpenHome, Pages, RoseAtLeast, TellsBy, TellsOn, put_home, put_homes, told_bytes}
use Rattle.residency.proofs.Pushes.PushedPages.{all_then}
use Rattle.residency.specs.Causes.{Later}
use Rattle.residency.specs.World.{own_page, world}
use Rattle.residency.specs.declared.store.Store.{Store}
use Rattle.vm_model.specs.Machine.{Machine}
use Rattle.vm_model.specs.Pushing.{MayPush, PushRule, page_named, segments_after}
use Rattle.pvm_core.specs.Manager.{AreApart, Manager, forest_of, machine_of, shown, world_of}
use Rattle.pvm_core.proofs.Homes.Named.{page_of_segment}
use Rattle.pvm_core.specs.Reaching.{Reach}
use Rattle.pvm_core.proofs.Meaning.Values.{own_value}

-- where the home of a node is: its cache and that cache's table
pub record HasHome (a : Arena) (n : NodeId) (home : Home) : Type 0 where
  pub cache : CacheId
  pub name : name_of a n ≡ Live cache home.page
  pub table : Table
  pub there : table_of a cache.0 ≡ Some table
  pub of : table.segment ≡ Some home.segment
  pub held : HasNode a n

pub has_home : (a : Arena) (n : NodeId) (home : Home) → home_of a n ≡ Some home → HasHome a n home
has_home a n home is = by_name (name_of a n) refl is
  where
    held : (o : Option _) → find a n ≡ o → is_some o ≡ true
    held None none = absurd (let e : None ≡ Some home = sym (home_none a n none) ∙ is in cc e)
    held (Some c) there = refl

    by_segment : (cache : CacheId) (page : PageNo) → name_of a n ≡ Live cache page → (t : Table) → table_of a cache.0 ≡ Some t → (o : Option SegId) → t.segment ≡ o → option_map (λ segment. record { segment = segment; page = page }) o ≡ Some home → HasHome a n home
    by_segment cache page name t there None of e = absurd (cc e)
    by_segment cache page name t there (Some s) of e =
        let same : record { segment = s; page = page } ≡ home = cc e in
        record {
          cache = cache;
          name = name ∙ ap (λ (h : Home). Live cache h.page) same;
          table = t;
          there = there;
          of = of ∙ ap (λ (h : Home). Some h.segment) same;
          held = held (find a n) refl;
        }

    by_table : (cache : CacheId) (page : PageNo) → name_of a n ≡ Live cache page → (o : Option Table) → table_of a cache.0 ≡ o → option_map (λ segment. record { segment = segment; page = page }) (option_and_then (λ (t : Table). t.segment) o) ≡ Some home → HasHome a n home
    by_table cache page name None there e = absurd (cc e)
    by_table cache page name (Some t) there e = by_segment cache page name t there t.segment refl e

    by_name : (x : NodeName) → name_of a n ≡ x → home_named a.caches x ≡ Some home → HasHome a n home
    by_name (Working k) name e = absurd (cc e)
    by_name (Live cache page) name e = by_table cache page name (table_at a.caches cache.0) refl e

-- Pushes of nodes' pages

-- the segment and the page of a home
abbrev pub place_of : Option Home → ℕ × ℕ
place_of o = option_map_or (λ (h : Home). (h.segment.0, h.page.0)) o (0, 0)

abbrev pub places_of : Arena → List NodeId → List (ℕ × ℕ)
places_of a ns = map (λ n. place_of (home_of a n)) ns

count_places : (a : Arena) (ns : List NodeId) → length (places_of a ns) ≡ length ns
count_places a [] = refl
count_places a (n ∷ ns) = ap suc (count_places a ns)

module _ (p : Manager) (h : Option Held) (nodes : IsWhole p.caches) (apart : AreApart p.caches) where
  -- the page of the machine at a node's home is the node's value
  pub page_at_home : (n : NodeId) (home : Home) → home_of p.caches n ≡ Some home → page_named (machine_of p h) home.segment.0 home.page.0 ≡ Some (shown (value_of (forest_of p h) (name_of p.caches n)))
  page_at_home n home is =
      let r = has_home p.caches n home is in
      let node : IsNode (arena.forest_of p.caches) (Live r.cache home.page) = subst (IsNode (arena.forest_of p.caches)) r.name (IsNode-forest_of p.caches nodes.sound.kept.named n r.held) in
      let page = node_page p.caches nodes.sound r.cache home.page.0 node in
      let less : home.page.0 < length r.table.pages = (let size : Some (length r.table.pages) ≡ Some page.0 = sym (ap (option_map (λ (t : Table). length t.pages)) r.there) ∙ page.1 in let same : length r.table.pages ≡ page.0 = cc size in omega (arith, same, page.2)) in
      page_of_segment p apart (forest_of p h) r.cache.0 r.table r.there home.segment r.of home.page.0 less
      ∙ ap (λ x. Some (shown (value_of (forest_of p h) x))) (sym r.name)

  module _ (pages : Pages) where
    -- such a page is the node's value, where a push of it is told
    abbrev pub IsValue : NodeId → Type 0
    IsValue n = IfSome h (λ _. told_bytes (pages n) ≡ shown (value_of (forest_of p h) (name_of p.caches n)))

    abbrev IsPushed : NodeId → Type 0
    IsPushed n = HasOpenHome (world_of p h) n × IsValue n

    may_push : (n : NodeId) → HasOpenHome (world_of p h) n → MayPush (machine_of p h) (segments_of h) (place_of (home_of p.caches n))
    may_push n may = subst (λ (o : Option Home). MayPush (machine_of p h) (segments_of h) (place_of o)) (sym may.is) (by_told h may.allowed)
      where
        there : IsSome (page_named (machine_of p h) may.home.segment.0 may.home.page.0)
        there = ap is_some (page_at_home n may.home may.is)

        by_told : (g : Option Held) → IfSome g (λ g. denies g.denied may.home.segment.0 may.home.page.0 ≡ false) → MayPush (machine_of p h) (segments_of g) (may.home.segment.0, may.home.page.0)
        by_told None allowed = tt
        by_told (Some g) allowed = (there, allowed)

    all_may : (ns : List NodeId) → AllByRecursion IsPushed ns → AllByRecursion (MayPush (machine_of p h) (segments_of h)) (places_of p.caches ns)
    all_may [] all = tt
    all_may (n ∷ ns) all = (may_push n all.0.0, all_may ns all.1)

    put_same : (k : Held) → h ≡ Some k → (n : NodeId) → IsPushed n → (s : Option Segments)
        → option_map (put_segment_page (place_of (home_of p.caches n)).0 (place_of (home_of p.caches n)).1 (unwrap_or (page_named (machine_of p h) (place_of (home_of p.caches n)).0 (place_of (home_of p.caches n)).1) [])) s ≡ option_map (put_home p.caches pages n) s
    put_same k e n is s =
        let may = is.0 in
        let value : told_bytes (pages n) ≡ shown (value_of (forest_of p h) (name_of p.caches n)) = subst (λ (o : Option Held). IfSome o (λ _. told_bytes (pages n) ≡ shown (value_of (forest_of p h) (name_of p.caches n)))) e is.1 in
        ap (λ (o : Option Home). option_map (put_segment_page (place_of o).0 (place_of o).1 (unwrap_or (page_named (machine_of p h) (place_of o).0 (place_of o).1) [])) s) may.is
        ∙ ap (λ (o : Option (List ℕ)). option_map (put_segment_page may.home.segment.0 may.home.page.0 (unwrap_or o [])) s) (page_at_home n may.home may.is)
        ∙ ap (λ (b : List ℕ). option_map (put_segment_page may.home.segment.0 may.home.page.0 b) s) (sym value)
        ∙ ap (λ (o : Option Home). option_map (λ (s : Segments). option_map_or (λ (home : Home). put_segment_page home.segment.0 home.page.0 (told_bytes (pages n)) s) o s) s) (sym may.is)

    all_put : (k : Held) → h ≡ Some k → (ns : List NodeId) → AllByRecursion IsPushed ns → (s : Option Segments) → segments_after (machine_of p h) (places_of p.caches ns) s ≡ put_homes p.caches pages ns s
    all_put k e [] all s = refl
    all_put k e (n ∷ ns) all s = ap (segments_after (machine_of p h) (places_of p.caches ns)) (put_same k e n all.0 s) ∙ all_put k e ns all.1 (option_map (put_home p.caches pages n) s)

    none_put : (m : Machine) (ns : List NodeId) → segments_after m (places_of p.caches ns) None ≡ put_homes p.caches pages ns None
    none_put m [] = refl
    none_put m (n ∷ ns) = none_put m ns

    -- the machine makes these pushes
    pushes_are : (ns : List NodeId) (after : Option Segments) → AllByRecursion IsPushed ns → after ≡ put_homes p.caches pages ns (segments_of h) → PushRule (machine_of p h) (segments_of h) (places_of p.caches ns) after
    pushes_are ns after all e = record { may = all_may ns all; pushed = e ∙ sym (go h refl) }
      where
        go : (g : Option Held) → h ≡ g → segments_after (machine_of p h) (places_of p.caches ns) (segments_of g) ≡ put_homes p.caches pages ns (segments_of g)
        go None q = none_put (machine_of p h) ns
        go (Some k) q = all_put k q ns all (segments_of (Some k))

    -- what a call pushed of these pages, where each that may be pushed is its node's value
    pub pages_reached : (May : NodeId → Type 0) (i j : Option ℕ) (b : Arena) (s : Store) (g : Option Held) (c d : MapperCounts) → ((n : NodeId) → May n → HasOpenHome (world h i p.caches p.store) n × IsValue n)
        → Later c d → TellsBy May pages (world h i p.caches p.store) (world g j b s) c d → Reach (machine_of p h) h g c d
    pages_reached May i j b s g c d may later t = record {
      later = later;
      pushes = places_of p.caches t.pushed;
      few = subst (λ (n : ℕ). RoseAtLeast n c.pushes d.pushes) (sym (count_places p.caches t.pushed)) t.counted;
      rule = pushes_are t.pushed (segments_of g) (all_then May IsPushed t.pushed (λ n m. (let o = (may n m).0 in record { home = o.home; is = o.is; allowed = o.allowed }, (may n m).1)) t.may) t.segments;
    }

-- the bytes that are told are those that are shown
pub shown_told : (o : Option (Option (List ℕ))) → told_bytes o ≡ shown o
shown_told None = refl
shown_told (Some None) = refl
shown_told (Some (Some b)) = refl

-- Own pages

module _ (p : Manager) (h : Option Held) (nodes : IsWhole p.caches) (apart : AreApart p.caches) where
  valued : (n : NodeId) → homes.MayPush (world_of p h) n → IsValue p h nodes apart (own_page (world_of p h)) n
  valued n may =
      let r = has_home p.caches n may.at.home may.at.is in
      by_told h (shown_told (own_page (world_of p h) n) ∙ sym (ap shown (own_value p h nodes n r.held may.own_page)))
    where
      by_told : (g : Option Held) → told_bytes (own_page (world_of p h) n) ≡ shown (value_of (forest_of p h) (name_of p.caches n)) → IfSome g (λ _. told_bytes (own_page (world_of p h) n) ≡ shown (value_of (forest_of p h) (name_of p.caches n)))
      by_told None e = tt
      by_told (Some g) e = e

  -- what a call pushed while pages left their frames
  pub reached : (i j : Option ℕ) (b : Arena) (s : Store) (g : Option Held) (c d : MapperCounts) → Later c d → TellsOn (world h i p.caches p.store) (world g j b s) c d → Reach (machine_of p h) h g c d
  reached i j b s g c d later t =
      let at : NodeId → Type 0 = homes.MayPush (world h i p.caches p.store) in
      pages_reached p h nodes apart (own_page (world h i p.caches p.store)) at i j b s g c d (λ n may. (may.at, valued n (sized may))) later t
    where
      sized : {n : NodeId} → homes.MayPush (world h i p.caches p.store) n → homes.MayPush (world_of p h) n
      sized may = record { at = record { home = may.at.home; is = may.at.is; allowed = may.at.allowed }; own_page = may.own_page }
