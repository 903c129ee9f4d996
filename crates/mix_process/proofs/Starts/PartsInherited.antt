-- The last process gets what its parent has, part by part.
use Rattle.std.proofs.Common.{◌≡◌, ℕ, zero, suc, ◌+◌, ◌-◌, ◌≤◌, ◌<◌, Bool, cond, List, [], ◌∷◌, ◌++◌, length, map, set, take, Option, Some, None, refl, sym, ap, subst, ◌∙◌, arith}
use Rattle.std.specs.Prelude.{IfSome, Ok, Err, option_map, slice_get}
use Rattle.std.specs.Option.{option_map_or}
use Rattle.std.proofs.lemmas.List.{length-append, length-map}
use Rattle.std.proofs.lemmas.Option.{slice_get_within}
use Rattle.vm_model.proofs.Parts.Lists.{get_set_same}
use Rattle.gmi_calls.proofs.Rising.{rise_none, rise_then}
use Rattle.interface_callers.proofs.Words.{Cache, GhostsOfGmi, GhostsOfMapper, Machine, MapperCounts, Rise, Trouble, cache_of, counts_sum, no_counts, numbered, segments_of}
use Rattle.interface_callers.proofs.Lists.{all_at, get_append, get_last, put_back, take_none}
use Rattle.mix_process.specs.Adding.{AreKept, most_of, put_at, with_more}
use Rattle.mix_process.specs.Copying.{IsCopied, IsInherited, MayCopy, MayInherit, copy_budget, cost_to_copy, usage_of_parts, usage_to_copy}
use Rattle.mix_process.specs.Outcome.{Usage, usage_of}
use Rattle.mix_process.specs.ProcessMachine as model
use Rattle.mix_process.specs.ProcessMachine.{ProcessMachine}
use Rattle.mix_process.specs.Seen.{pages_in, part_seen, process_seen, processes_seen, same_area}
use Rattle.mix_process.specs.Tying.{CanCall, IsPart, IsRun}
use Rattle.mix_process.specs.Use.{IsWithin, usage_sum}
use Rattle.mix_process.specs.declared.area.Area.{Area}
use Rattle.mix_process.specs.declared.mix.Mix.{Mix}
use Rattle.mix_process.specs.declared.process.Part.{Part}
use Rattle.mix_process.specs.declared.process.Process.{Process}
use Rattle.mix_process.proofs.Ties.Clearing.{parts_kept}
use Rattle.mix_process.proofs.Ties.Counts.{cheap, cost_of_parts, have_some}
use Rattle.mix_process.proofs.Ties.OneMorePart.{map_place, one_more_seen, parts_seen}
use Rattle.mix_process.proofs.Ties.Keeping.{numbered_at}
use Rattle.mix_process.proofs.Reading.Looking.{pages-append, same_self}
use Rattle.mix_process.proofs.Ties.PartMapping.{small_in}
use Rattle.mix_process.proofs.Reading.Seeing.{part_length}
use Rattle.mix_process.proofs.Ties.NewCache.{part_cache}
use Rattle.mix_process.proofs.Calling.Using.{lack_still}

-- Lists

take_next : {A : Type 0} (xs : List A) (n : ℕ) (x : A) → slice_get xs n ≡ Some x → take (n + 1) xs ≡ take n xs ++ x ∷ []
take_next [] n x e = absurd (cc e)
take_next (y ∷ xs) zero x e = let same : y ≡ x = cc e in (λ i. same i ∷ take_none xs i)
take_next (y ∷ xs) (suc n) x e = ap (λ (k : ℕ). take k (y ∷ xs)) (let s : suc n + 1 ≡ suc (n + 1) = omega arith in s) ∙ ap (λ zs. y ∷ zs) (take_next xs n x e)

take_whole : {A : Type 0} (xs : List A) (n : ℕ) → slice_get xs n ≡ None → take n xs ≡ xs
take_whole [] zero e = refl
take_whole [] (suc n) e = refl
take_whole (x ∷ xs) zero e = absurd (cc e)
take_whole (x ∷ xs) (suc n) e = ap (λ zs. x ∷ zs) (take_whole xs n e)

take_split : {A : Type 0} (xs : List A) (n : ℕ) (x : A) → slice_get xs n ≡ Some x → (behind : List A) × (xs ≡ take n xs ++ x ∷ behind)
take_split [] n x e = absurd (cc e)
take_split (y ∷ xs) zero x e = let same : y ≡ x = cc e in (xs, (λ i. same i ∷ xs))
take_split (y ∷ xs) (suc n) x e = let r = take_split xs n x e in (r.0, (λ i. y ∷ r.1 i))

pub set_last : {A : Type 0} (xs : List A) (x y : A) (k : ℕ) → k ≡ length xs → set (xs ++ x ∷ []) k y ≡ xs ++ y ∷ []
set_last [] x y zero e = refl
set_last [] x y (suc k) e = absurd (omega (arith, e))
set_last (z ∷ xs) x y zero e = absurd (omega (arith, e))
set_last (z ∷ xs) x y (suc k) e = ap (λ zs. z ∷ zs) (set_last xs x y k (omega (arith, e)))

pub set_again : {A : Type 0} (xs : List A) (k : ℕ) (x y : A) → set (set xs k x) k y ≡ set xs k y
set_again [] k x y = refl
set_again (z ∷ xs) zero x y = refl
set_again (z ∷ xs) (suc k) x y = ap (λ zs. z ∷ zs) (set_again xs k x y)

-- What parts use and cost

cost_snoc : (xs : List Part) (p : Part) → cost_of_parts (xs ++ p ∷ []) ≡ cost_of_parts xs + cost_to_copy p
cost_snoc [] p = omega arith
cost_snoc (x ∷ xs) p = omega (arith, cost_snoc xs p)

cost_take : (xs : List Part) (n : ℕ) → cost_of_parts (take n xs) ≤ cost_of_parts xs
cost_take [] zero = omega arith
cost_take [] (suc n) = omega arith
cost_take (x ∷ xs) zero = omega arith
cost_take (x ∷ xs) (suc n) = omega (arith, cost_take xs n)

usage_snoc : (xs : List Part) (p : Part) → IsWithin (usage_sum (usage_of_parts xs) (usage_to_copy p)) (usage_of_parts (xs ++ p ∷ []))
usage_snoc [] p = record { living = omega arith; actors = omega arith; caches = omega arith; regions = omega arith; pages = omega arith }
usage_snoc (x ∷ xs) p = let r = usage_snoc xs p in
    record { living = omega (arith, r.living); actors = omega (arith, r.actors); caches = omega (arith, r.caches); regions = omega (arith, r.regions); pages = omega (arith, r.pages) }

usage_take : (xs : List Part) (n : ℕ) → IsWithin (usage_of_parts (take n xs)) (usage_of_parts xs)
usage_take [] zero = record { living = omega arith; actors = omega arith; caches = omega arith; regions = omega arith; pages = omega arith }
usage_take [] (suc n) = record { living = omega arith; actors = omega arith; caches = omega arith; regions = omega arith; pages = omega arith }
usage_take (x ∷ xs) zero = record { living = omega arith; actors = omega arith; caches = omega arith; regions = omega arith; pages = omega arith }
usage_take (x ∷ xs) (suc n) = let r = usage_take xs n in
    record { living = omega (arith, r.living); actors = omega (arith, r.actors); caches = omega (arith, r.caches); regions = omega (arith, r.regions); pages = omega (arith, r.pages) }

-- used now within what was used and more, and then more
used_then : (u v w a b c : Usage) → IsWithin v (usage_sum u a) → IsWithin w (usage_sum v b) → IsWithin (usage_sum a b) c → IsWithin w (usage_sum u c)
used_then u v w a b c f g h = record {
  living = omega (arith, f.living, g.living, h.living);
  actors = omega (arith, f.actors, g.actors, h.actors);
  caches = omega (arith, f.caches, g.caches, h.caches);
  regions = omega (arith, f.regions, g.regions, h.regions);
  pages = omega (arith, f.pages, g.pages, h.pages);
}

lack_then : (u v a b c : Usage) → IsWithin v (usage_sum u a) → IsWithin (usage_sum a b) c → IsWithin (usage_sum v b) (usage_sum u c)
lack_then u v a b c f h = record {
  living = omega (arith, f.living, h.living);
  actors = omega (arith, f.actors, h.actors);
  caches = omega (arith, f.caches, h.caches);
  regions = omega (arith, f.regions, h.regions);
  pages = omega (arith, f.pages, h.pages);
}

within_then : (a b c : Usage) → IsWithin a b → IsWithin b c → IsWithin a c
within_then a b c f g = record {
  living = omega (arith, f.living, g.living);
  actors = omega (arith, f.actors, g.actors);
  caches = omega (arith, f.caches, g.caches);
  regions = omega (arith, f.regions, g.regions);
  pages = omega (arith, f.pages, g.pages);
}

-- the parts of the process at a place
abbrev pub parts_at : List (Option Process) → ℕ → List Part
parts_at table place = option_map_or (λ (p : Process). p.parts.items) (numbered table (place + 1)) []

-- The parts up to this one were copied

pub record AreCopying {Manager X Chooser : Type 0} (M : GhostsOfMapper X) (G : GhostsOfGmi Manager X Chooser) (before : X) (old : Mix Manager) (front : List (Option Process)) (p : Process) (place next : ℕ) (now : X) (mix : Mix Manager) : Type 0 where
  pub can : CanCall G mix (M.held now) (M.page_bytes now)
  pub child : Process
  pub table : mix.processes.items ≡ front ++ Some child ∷ []
  pub images : mix.images ≡ old.images
  pub at : place ≡ length front
  pub sizes : (area : Area) → pages_in area child.parts.items ≡ pages_in area (take next p.parts.items)
  pub seen : processes_seen (G.machine mix.gmi (M.held now)) mix.processes.items mix.images.items
      ≡ put_at (processes_seen (G.machine old.gmi (M.held before)) old.processes.items old.images.items) (length front) (parts_seen (G.machine old.gmi (M.held before)) (take next p.parts.items))
  pub kept : AreKept (G.machine old.gmi (M.held before)) (G.machine mix.gmi (M.held now))
  pub used : IsWithin (usage_of (G.machine mix.gmi (M.held now))) (usage_sum (usage_of (G.machine old.gmi (M.held before))) (usage_of_parts (take next p.parts.items)))
  pub made : G.made mix.gmi ≤ G.made old.gmi + cost_of_parts (take next p.parts.items)
  pub segments : segments_of (M.held now) ≡ segments_of (M.held before)
  pub rises : MapperCounts
  pub rose : Rise (M.counts before) (M.counts now) rises

module _ {Manager X Chooser : Type 0} (M : GhostsOfMapper X) (G : GhostsOfGmi Manager X Chooser) (before : X) (old : Mix Manager) (can : CanCall G old (M.held before) (M.page_bytes before)) (parent : ℕ) (p : Process)
    (may : MayInherit old.processes.items parent p) where
  abbrev m : Machine
  m = G.machine old.gmi (M.held before)

  abbrev S : ProcessMachine
  S = processes_seen m old.processes.items old.images.items

  abbrev L : ℕ
  L = length may.front

  stands : slice_get old.processes.items L ≡ Some (Some may.child)
  stands = ap (λ (xs : List (Option Process)). slice_get xs L) may.is ∙ get_last may.front (Some may.child)

  parent_alive : numbered old.processes.items (parent + 1) ≡ Some p
  parent_alive = numbered_at old.processes.items parent p (ap (λ (xs : List (Option Process)). slice_get xs parent) may.is ∙ get_append may.front (Some may.child ∷ []) parent (Some p) may.there)

  pub fewer_left : (next : ℕ) (part : Part) → slice_get p.parts.items next ≡ Some part → length (parts_at old.processes.items parent) - (next + 1) < length (parts_at old.processes.items parent) - next
  fewer_left next part here =
      let is : length (parts_at old.processes.items parent) ≡ length p.parts.items = ap (λ (o : Option Process). length (option_map_or (λ (p : Process). p.parts.items) o [])) parent_alive in
      let less : next < length p.parts.items = slice_get_within p.parts.items next part here in
      omega (arith, is, less)

  pub run : IsRun m p
  run = can.tied.run (parent + 1) p parent_alive

  pub last_place : (place : ℕ) → place ≡ length old.processes.items - 1 → place ≡ L
  last_place place e = omega (arith, e, ap (λ (xs : List (Option Process)). length xs) may.is, length-append may.front (Some may.child ∷ []))

  pub none_copied : (place : ℕ) → place ≡ length old.processes.items - 1 → AreCopying M G before old may.front p place 0 before old
  none_copied place e = record {
    can = can;
    child = may.child;
    table = may.is;
    images = refl;
    at = last_place place e;
    sizes = λ area. ap (pages_in area) (may.bare ∙ sym (take_none p.parts.items));
    seen = λ i. record S { processes = start i };
    kept = λ k c e. e;
    used = record { living = omega arith; actors = omega arith; caches = omega arith; regions = omega arith; pages = omega arith };
    made = omega arith;
    segments = refl;
    rises = no_counts;
    rose = rise_none (M.counts before);
  }
    where
      bare_seen : parts_seen m may.child.parts.items ≡ parts_seen m (take 0 p.parts.items)
      bare_seen = ap (parts_seen m) (may.bare ∙ sym (take_none p.parts.items))

      start : S.processes ≡ set S.processes L (Some (parts_seen m (take 0 p.parts.items)))
      start = sym (put_back S.processes L (Some (process_seen m may.child)) (map_place (option_map (process_seen m)) old.processes.items L (Some may.child) stands))
          ∙ ap (λ (x : model.Process). set S.processes L (Some x)) bare_seen

  module _ (place next : ℕ) (now : X) (mix : Mix Manager) (a : AreCopying M G before old may.front p place next now mix) where
    abbrev n : Machine
    n = G.machine mix.gmi (M.held now)

    there_now : slice_get mix.processes.items place ≡ Some (Some a.child)
    there_now = ap (λ (xs : List (Option Process)). slice_get xs place) a.table ∙ ap (slice_get (may.front ++ Some a.child ∷ [])) a.at ∙ get_last may.front (Some a.child)

    pub parent_within : parent < length mix.processes.items
    parent_within = let less : parent < length may.front = slice_get_within may.front parent (Some p) may.there in
        omega (arith, less, ap (λ (xs : List (Option Process)). length xs) a.table, length-append may.front (Some a.child ∷ []))

    pub parent_now : numbered mix.processes.items (parent + 1) ≡ Some p
    parent_now = numbered_at mix.processes.items parent p (ap (λ (xs : List (Option Process)). slice_get xs parent) a.table ∙ get_append may.front (Some a.child ∷ []) parent (Some p) may.there)

    pub part_is : (o : Option Part) → IfSome (numbered mix.processes.items (parent + 1)) (λ (x : Process). o ≡ slice_get x.parts.items next) → slice_get p.parts.items next ≡ o
    part_is o h = sym (subst (λ (x : Option Process). IfSome x (λ (y : Process). o ≡ slice_get y.parts.items next)) parent_now h)

    pub made_yet : G.made mix.gmi ≤ G.made old.gmi + copy_budget
    made_yet = omega (arith, a.made, cheap m p run, cost_take p.parts.items next)

    -- the end
    pub all_copied : slice_get p.parts.items next ≡ None → IsInherited M G before old may.front p (Ok tt) now mix
    all_copied none = let whole = take_whole p.parts.items next none in record {
      can = a.can;
      child = a.child;
      table = a.table;
      images = a.images;
      inherits = a.seen ∙ ap (λ (xs : List Part). put_at S L (parts_seen m xs)) whole;
      kept = a.kept;
      used = subst (λ (xs : List Part). IsWithin (usage_of n) (usage_sum (usage_of m) (usage_of_parts xs))) whole a.used;
      made = omega (arith, a.made, cheap m p run, cost_take p.parts.items next);
      segments = a.segments;
      rises = a.rises;
      rose = a.rose;
    }

    module _ (part : Part) (here : slice_get p.parts.items next ≡ Some part) where
      was_part : IsPart m part.area part
      was_part = all_at (λ (x : Part). IsPart m x.area x) p.parts.items next part run.parts here

      cache : (c : Cache) × (cache_of m part.cache.0 ≡ Some c)
      cache = part_cache m part.area part was_part

      one_kept : (j : ℕ) (x : Part) → slice_get (part ∷ []) j ≡ Some x → cache_of n x.cache.0 ≡ cache_of m x.cache.0
      one_kept zero x e = let same : part ≡ x = cc e in subst (λ (x : Part). cache_of n x.cache.0 ≡ cache_of m x.cache.0) same (a.kept part.cache.0 cache.0 cache.1 ∙ sym cache.1)
      one_kept (suc j) x e = absurd (cc e)

      is_part_now : IsPart n part.area part
      is_part_now = (parts_kept m n (part ∷ []) one_kept (was_part, tt)).0

      split : (behind : List Part) × (p.parts.items ≡ take next p.parts.items ++ part ∷ behind)
      split = take_split p.parts.items next part here

      few : pages_in part.area a.child.parts.items + part.pages ≤ most_of part.area
      few =
          let own : cond (same_area part.area part.area) part.pages 0 ≡ part.pages = ap (λ (b : Bool). cond b part.pages 0) (same_self part.area) in
          let all : pages_in part.area p.parts.items ≡ pages_in part.area (take next p.parts.items) + (cond (same_area part.area part.area) part.pages 0 + pages_in part.area split.0) = ap (pages_in part.area) split.1 ∙ pages-append part.area (take next p.parts.items) (part ∷ split.0) in
          let less : pages_in part.area p.parts.items ≤ most_of part.area = small_in p.parts.items run.small part.area in
          omega (arith, own, all, less, a.sizes part.area)

      pub may_copy : MayCopy n mix.processes.items place a.child part
      may_copy = record {
        room = record {
          there = there_now;
          some = have_some m p run next part here;
          few = few;
          first = λ other. a.sizes part.area ∙ run.single (take next p.parts.items) split.0 part split.1 other;
        };
        is_part = is_part_now;
      }

      next_is : take (next + 1) p.parts.items ≡ take next p.parts.items ++ part ∷ []
      next_is = take_next p.parts.items next part here

      part_as : part_seen n part ≡ part_seen m part
      part_as = ap (λ (o : Option Cache). take part.pages (option_map_or (λ (c : Cache). c.pages) o [])) (a.kept part.cache.0 cache.0 cache.1 ∙ sym cache.1)

      child_seen : process_seen n a.child ≡ parts_seen m (take next p.parts.items)
      child_seen =
          let less : L < length S.processes = omega (arith, length-map old.processes.items (option_map (process_seen m)), slice_get_within old.processes.items L (Some may.child) stands) in
          let here_is : slice_get (map (option_map (process_seen n)) mix.processes.items) L ≡ Some (Some (process_seen n a.child)) = map_place (option_map (process_seen n)) mix.processes.items L (Some a.child) (ap (slice_get mix.processes.items) (sym a.at) ∙ there_now) in
          let put_is : slice_get (map (option_map (process_seen n)) mix.processes.items) L ≡ Some (Some (parts_seen m (take next p.parts.items))) = ap (λ (x : ProcessMachine). slice_get x.processes L) a.seen ∙ get_set_same S.processes L (Some (parts_seen m (take next p.parts.items))) less in
          let both : Some (Some (process_seen n a.child)) ≡ Some (Some (parts_seen m (take next p.parts.items))) = sym here_is ∙ put_is in
          cc both

      used_less : IsWithin (usage_sum (usage_of_parts (take next p.parts.items)) (usage_to_copy part)) (usage_of_parts (take (next + 1) p.parts.items))
      used_less = subst (λ (xs : List Part). IsWithin (usage_sum (usage_of_parts (take next p.parts.items)) (usage_to_copy part)) (usage_of_parts xs)) (sym next_is) (usage_snoc (take next p.parts.items) part)

      cost_is : cost_of_parts (take (next + 1) p.parts.items) ≡ cost_of_parts (take next p.parts.items) + cost_to_copy part
      cost_is = ap cost_of_parts next_is ∙ cost_snoc (take next p.parts.items) part

      -- it is copied
      pub one_copied : (after : X) (new : Mix Manager) → IsCopied M G now mix place a.child part (Ok tt) after new → AreCopying M G before old may.front p place (next + 1) after new
      one_copied after new h = record {
        can = h.can;
        child = h.copies.put.now;
        table = h.copies.put.processes ∙ ap (λ (xs : List (Option Process)). set xs place (Some h.copies.put.now)) a.table ∙ set_last may.front (Some a.child) (Some h.copies.put.now) place a.at;
        images = h.copies.put.images ∙ a.images;
        at = a.at;
        sizes = λ area.
            ap (pages_in area) h.copies.put.parts_now ∙ pages-append area a.child.parts.items (h.copies.copy ∷ [])
            ∙ (λ i. a.sizes area i + (cond (same_area (h.copies.area_is i) area) (h.copies.pages_is i) 0 + 0))
            ∙ sym (ap (pages_in area) next_is ∙ pages-append area (take next p.parts.items) (part ∷ []));
        seen = h.copies.seen
            ∙ (λ i. put_at (a.seen i) (a.at i) (with_more part.area (part_as i) (child_seen i)))
            ∙ (λ i. record S { processes = set_again S.processes L (Some (parts_seen m (take next p.parts.items))) (Some (with_more part.area (part_seen m part) (parts_seen m (take next p.parts.items)))) i })
            ∙ ap (put_at S L) (sym (ap (parts_seen m) next_is ∙ one_more_seen m (take next p.parts.items) part (part_length m part was_part)));
        kept = λ k c e. h.kept k c (a.kept k c e);
        used = used_then (usage_of m) (usage_of n) (usage_of (G.machine new.gmi (M.held after))) (usage_of_parts (take next p.parts.items)) (usage_to_copy part) (usage_of_parts (take (next + 1) p.parts.items)) a.used h.used used_less;
        made = omega (arith, a.made, h.made, cost_is);
        segments = h.segments ∙ a.segments;
        rises = counts_sum a.rises h.rises;
        rose = rise_then (M.counts before) (M.counts now) (M.counts after) a.rises h.rises a.rose h.rose;
      }

      -- it couldn't be
      pub not_copied : (trouble : Trouble) (after : X) (new : Mix Manager) → IsCopied M G now mix place a.child part (Err trouble) after new → IsInherited M G before old may.front p (Err trouble) after new
      not_copied trouble after new h = record {
        can = h.can;
        child = h.copies.put.now;
        table = h.copies.put.processes ∙ ap (λ (xs : List (Option Process)). set xs place (Some h.copies.put.now)) a.table ∙ set_last may.front (Some a.child) (Some h.copies.put.now) place a.at;
        images = h.copies.put.images ∙ a.images;
        inherits = lack_still (usage_of m) (usage_of_parts p.parts.items) (usage_of n) (usage_to_copy part)
            (lack_then (usage_of m) (usage_of n) (usage_of_parts (take next p.parts.items)) (usage_to_copy part) (usage_of_parts p.parts.items) a.used (within_then _ _ _ used_less (usage_take p.parts.items (next + 1)))) trouble h.copies.lack;
        kept = λ k c e. h.kept k c (a.kept k c e);
        used = used_then (usage_of m) (usage_of n) (usage_of (G.machine new.gmi (M.held after))) (usage_of_parts (take next p.parts.items)) (usage_to_copy part) (usage_of_parts p.parts.items) a.used h.used (within_then _ _ _ used_less (usage_take p.parts.items (next + 1)));
        made = omega (arith, a.made, h.made, cost_is, cheap m p run, cost_take p.parts.items (next + 1));
        segments = h.segments ∙ a.segments;
        rises = counts_sum a.rises h.rises;
        rose = rise_then (M.counts before) (M.counts now) (M.counts after) a.rises h.rises a.rose h.rose;
      }
