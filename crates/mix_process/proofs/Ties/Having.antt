-- The manager has an actor for each living process, and the pages of images, data and stacks.
use Rattle.std.proofs.Common.{◌≡◌, ◌⊎◌, inl, inr, ℕ, zero, suc, ◌+◌, ◌-◌, ◌≤◌, Bool, true, false, cond, List, [], ◌∷◌, ◌++◌, length, map, set, Option, Some, None, refl, sym, ap, subst, ◌∙◌, arith}
use Rattle.std.specs.Prelude.{is_some, option_map, slice_get, sum_by}
use Rattle.std.specs.List.{AllByRecursion}
use Rattle.std.proofs.lemmas.Bool.{cases_eq}
use Rattle.std.proofs.lemmas.List.Sums.{sum_by-append, sum_by-cons}
use Rattle.std.proofs.lemmas.Option.{slice_get_within}
use Rattle.vm_model.proofs.Parts.Lists.{get_set_same, numbered_place, sum_by_swap}
use Rattle.vm_model.proofs.Parts.ListParts.{numbered_set_other}
use Rattle.interface_callers.proofs.Words.{Actor, Cache, GhostsOfGmi, Held, Machine, Page, cache_of, numbered, pages_in}
use Rattle.interface_callers.proofs.Lists.{all_at, number_at}
use Rattle.mix_process.specs.Outcome.{HasThese, own_pages, usage_of}
use Rattle.mix_process.specs.ProcessMachine.{may_write}
use Rattle.mix_process.specs.Seen as seen
use Rattle.mix_process.specs.Seen.{cache_pages, image_seen, process_seen, processes_seen, same_area, state_of}
use Rattle.mix_process.specs.Tying.{AreTied, CanCall, IsOwnCache, IsPart, IsRun, Owns, none_spare}
use Rattle.mix_process.specs.declared.area.Area.{Area}
use Rattle.mix_process.specs.declared.area.Area.TheVariants.{Data, Stack, Text}
use Rattle.mix_process.specs.declared.mix.Image.{Image}
use Rattle.mix_process.specs.declared.mix.Mix.{Mix}
use Rattle.mix_process.specs.declared.process.Part.{Part}
use Rattle.mix_process.specs.declared.process.Process.{Process}
use Rattle.mix_process.proofs.Reading.Seeing.{pages_there, seen_length}
use Rattle.mix_process.proofs.Reading.Storing.{own_cache}

-- A number that something has, and for how much it counts
abbrev pub Count : Type 0
Count = ℕ × ℕ

abbrev amount : Count → ℕ
amount c = c.1

-- the number is one of these
abbrev IsAmong : ℕ → List Count → Type 0
IsAmong k [] = ⊥
IsAmong k (c ∷ cs) = (c.0 ≡ k) ⊎ IsAmong k cs

-- no number is there twice
abbrev AreOnce : List Count → Type 0
AreOnce [] = Unit {0}
AreOnce (c ∷ cs) = (IsAmong c.0 cs → ⊥) × AreOnce cs

in_front : (k : ℕ) (xs ys : List Count) → IsAmong k xs → IsAmong k (xs ++ ys)
in_front k [] ys a = absurd a
in_front k (x ∷ xs) ys (inl e) = inl e
in_front k (x ∷ xs) ys (inr a) = inr (in_front k xs ys a)

behind : (k : ℕ) (xs ys : List Count) → IsAmong k ys → IsAmong k (xs ++ ys)
behind k [] ys a = a
behind k (x ∷ xs) ys a = inr (behind k xs ys a)

either : (k : ℕ) (xs ys : List Count) → IsAmong k (xs ++ ys) → IsAmong k xs ⊎ IsAmong k ys
either k [] ys a = inr a
either k (x ∷ xs) ys (inl e) = inl (inl e)
either k (x ∷ xs) ys (inr a) = elim (either k xs ys a) [ inl f ↦ inl (inr f) | inr b ↦ inr b ]

once_both : (xs ys : List Count) → AreOnce xs → AreOnce ys → ((k : ℕ) → IsAmong k xs → IsAmong k ys → ⊥) → AreOnce (xs ++ ys)
once_both [] ys a b apart = b
once_both (x ∷ xs) ys a b apart = (λ h. elim (either x.0 xs ys h) [ inl f ↦ a.0 f | inr g ↦ apart x.0 (inl refl) g ], once_both xs ys a.1 b (λ k f g. apart k (inr f) g))

all_both : (P : Count → Type 0) (xs ys : List Count) → AllByRecursion P xs → AllByRecursion P ys → AllByRecursion P (xs ++ ys)
all_both P [] ys a b = b
all_both P (x ∷ xs) ys a b = (a.0, all_both P xs ys a.1 b)

-- What each of a list gives, one behind the other

module _ {A : Type 0} (f : A → List Count) where
  abbrev all_of : List A → List Count
  all_of [] = []
  all_of (x ∷ xs) = f x ++ all_of xs

  from_one : (k : ℕ) (xs : List A) → IsAmong k (all_of xs) → (i : ℕ) × (x : A) × (slice_get xs i ≡ Some x) × IsAmong k (f x)
  from_one k [] a = absurd a
  from_one k (x ∷ xs) a = elim (either k (f x) (all_of xs) a) [
    | inl h ↦ (0, x, refl, h)
    | inr t ↦ (let r = from_one k xs t in (suc r.0, r.1, r.2, r.3))
  ]

  of_one : (k : ℕ) (xs : List A) (i : ℕ) (x : A) → slice_get xs i ≡ Some x → IsAmong k (f x) → IsAmong k (all_of xs)
  of_one k [] i x e a = absurd (cc e)
  of_one k (y ∷ xs) zero x e a = let same : y ≡ x = cc in in_front k (f y) (all_of xs) (subst (λ (z : A). IsAmong k (f z)) (sym same) a)
  of_one k (y ∷ xs) (suc i) x e a = behind k (f y) (all_of xs) (of_one k xs i x e a)

  once_all : (xs : List A) → ((i : ℕ) (x : A) → slice_get xs i ≡ Some x → AreOnce (f x))
      → ((i j k : ℕ) (x y : A) → slice_get xs i ≡ Some x → slice_get xs j ≡ Some y → IsAmong k (f x) → IsAmong k (f y) → i ≡ j) → AreOnce (all_of xs)
  once_all [] each apart = tt
  once_all (x ∷ xs) each apart = once_both (f x) (all_of xs) (each 0 x refl)
      (once_all xs (λ i y e. each (suc i) y e) (λ i j k y z e g a b. (let same : suc i ≡ suc j = apart (suc i) (suc j) k y z e g a b in omega (arith, same))))
      (λ k a b. (let r = from_one k xs b in let same : 0 ≡ suc r.0 = apart 0 (suc r.0) k x r.1 refl r.2 a r.3 in omega (arith, same)))

  each_all : (P : Count → Type 0) (xs : List A) → ((i : ℕ) (x : A) → slice_get xs i ≡ Some x → AllByRecursion P (f x)) → AllByRecursion P (all_of xs)
  each_all P [] each = tt
  each_all P (x ∷ xs) each = all_both P (f x) (all_of xs) (each 0 x refl) (each_all P xs (λ i y e. each (suc i) y e))

  sum_all : {B : Type 0} (h : A → B) (g : B → ℕ) (xs : List A) → ((i : ℕ) (x : A) → slice_get xs i ≡ Some x → sum_by amount (f x) ≡ g (h x)) → sum_by amount (all_of xs) ≡ sum_by g (map h xs)
  sum_all h g [] each = refl
  sum_all h g (x ∷ xs) each = omega (arith, sum_by-append amount (f x) (all_of xs), sum_by-cons g (h x) (map h xs), each 0 x refl, sum_all h g xs (λ i y e. each (suc i) y e))

-- A sum over what is alive in a list is one over its numbers.

module _ {A : Type 0} (w : Option A → ℕ) (nothing : w None ≡ 0) where
  abbrev Stands : List (Option A) → Count → Type 0
  Stands xs c = (x : A) × (numbered xs c.0 ≡ Some x) × (w (Some x) ≡ c.1)

  none_alive : (xs : List (Option A)) → ((i : ℕ) (x : A) → slice_get xs i ≡ Some (Some x) → ⊥) → sum_by w xs ≡ 0
  none_alive [] none = refl
  none_alive (None ∷ xs) none = omega (arith, sum_by-cons w None xs, nothing, none_alive xs (λ i x e. none (suc i) x e))
  none_alive (Some x ∷ xs) none = absurd (none 0 x refl)

  still : (xs : List (Option A)) (k : ℕ) → 1 ≤ k → (cs : List Count) → (IsAmong k cs → ⊥) → AllByRecursion (Stands xs) cs → AllByRecursion (Stands (set xs (k - 1) None)) cs
  still xs k some [] out all = tt
  still xs k some (c ∷ cs) out all = ((all.0.0, numbered_set_other xs k c.0 None some (λ e. out (inl e)) ∙ all.0.1, all.0.2), still xs k some cs (λ a. out (inr a)) all.1)

  sum_alive : (cs : List Count) (xs : List (Option A)) → AreOnce cs → AllByRecursion (Stands xs) cs → ((k : ℕ) (x : A) → numbered xs k ≡ Some x → IsAmong k cs) → sum_by w xs ≡ sum_by amount cs
  sum_alive [] xs once all only = none_alive xs (λ i x e. only (i + 1) x (number_at xs (i + 1) (Some x) (omega arith) (ap (slice_get xs) (let s : i + 1 - 1 ≡ i = omega arith in s) ∙ e)))
  sum_alive (c ∷ cs) xs once all only =
      let at = numbered_place xs c.0 all.0.0 all.0.1 in
      let left : List (Option A) = set xs (c.0 - 1) None in
      let gone : numbered left c.0 ≡ None = number_at left c.0 None at.0 (get_set_same xs (c.0 - 1) None (slice_get_within xs (c.0 - 1) (Some all.0.0) at.1)) in
      let rest : sum_by w left ≡ sum_by amount cs = sum_alive cs left once.1 (still xs c.0 at.0 cs once.0 all.1) (λ k x e. elim (cases_eq k c.0) [
        | inl same ↦ absurd (let wrong : None ≡ Some x = sym gone ∙ ap (numbered left) (sym same) ∙ e in cc wrong)
        | inr other ↦ elim (only k x (sym (numbered_set_other xs c.0 k None at.0 other) ∙ e)) [ inl same ↦ absurd (other (sym same)) | inr a ↦ a ]
      ]) in
      omega (arith, sum_by_swap w xs (c.0 - 1) (Some all.0.0) None at.1, nothing, rest, all.0.2, sum_by-cons amount c cs)

-- What counts

abbrev actor_count : Option Process → List Count
actor_count None = []
actor_count (Some p) = (p.actor.0, 1) ∷ []

abbrev part_count : Part → List Count
part_count part = cond (may_write part.area) ((part.cache.0, part.pages) ∷ []) []

abbrev own_count : Option Process → List Count
own_count None = []
own_count (Some p) = all_of part_count p.parts.items

abbrev image_count : Machine → Image → List Count
image_count m image = (image.cache.0, length (cache_pages m image.cache.0)) ∷ []

actor_in : (k : ℕ) (o : Option Process) → IsAmong k (actor_count o) → (p : Process) × (o ≡ Some p) × (p.actor.0 ≡ k)
actor_in k None a = absurd a
actor_in k (Some p) (inl e) = (p, refl, e)
actor_in k (Some p) (inr a) = absurd a

actor_once : (o : Option Process) → AreOnce (actor_count o)
actor_once None = tt
actor_once (Some p) = (λ a. a, tt)

part_in : (k : ℕ) (part : Part) → IsAmong k (part_count part) → (may_write part.area ≡ true) × (part.cache.0 ≡ k)
part_in k part a = by (may_write part.area) refl a
  where
    by : (b : Bool) → may_write part.area ≡ b → IsAmong k (cond b ((part.cache.0, part.pages) ∷ []) []) → (may_write part.area ≡ true) × (part.cache.0 ≡ k)
    by true e (inl same) = (e, same)
    by true e (inr a) = absurd a
    by false e a = absurd a

in_part : (k : ℕ) (part : Part) → may_write part.area ≡ true → part.cache.0 ≡ k → IsAmong k (part_count part)
in_part k part own same = subst (λ (b : Bool). IsAmong k (cond b ((part.cache.0, part.pages) ∷ []) [])) (sym own) (inl same)

part_once : (part : Part) → AreOnce (part_count part)
part_once part = by (may_write part.area)
  where
    by : (b : Bool) → AreOnce (cond b ((part.cache.0, part.pages) ∷ []) [])
    by true = (λ a. a, tt)
    by false = tt

one : (c : Count) → sum_by amount (c ∷ []) ≡ amount c
one c = omega (arith, sum_by-cons amount c [])

one_sum : (a : Area) (k n : ℕ) → sum_by amount (cond (may_write a) ((k, n) ∷ []) []) ≡ cond (same_area a Data) n 0 + cond (same_area a Stack) n 0
one_sum Text k n = omega arith
one_sum Data k n = omega (arith, one (k, n))
one_sum Stack k n = omega (arith, one (k, n))

parts_sum : (parts : List Part) → sum_by amount (all_of part_count parts) ≡ seen.pages_in Data parts + seen.pages_in Stack parts
parts_sum [] = omega arith
parts_sum (p ∷ ps) = omega (arith, sum_by-append amount (part_count p) (all_of part_count ps), one_sum p.area p.cache.0 p.pages, parts_sum ps)

abbrev alive_one : Option Actor → ℕ
alive_one a = cond (is_some a) 1 0

abbrev segment_in : Option Cache → Option ℕ
segment_in None = None
segment_in (Some c) = c.segment

module _ (m : Machine) (table : List (Option Process)) (images : List Image) (t : AreTied m (numbered table) none_spare images) where
  alive : (n : ℕ) (p : Process) → slice_get table n ≡ Some (Some p) → numbered table (n + 1) ≡ Some p
  alive n p e = number_at table (n + 1) (Some p) (omega arith) (ap (slice_get table) (let s : n + 1 - 1 ≡ n = omega arith in s) ∙ e)

  -- Actors

  actors_once : AreOnce (all_of actor_count table)
  actors_once = once_all actor_count table (λ n o e. actor_once o) (λ n j k o x e f a b.
      (let p = actor_in k o a in let q = actor_in k x b in
      let same : n + 1 ≡ j + 1 = t.actors_apart (n + 1) (j + 1) p.0 q.0 (alive n p.0 (e ∙ ap (λ (z : Option Process). Some z) p.1)) (alive j q.0 (f ∙ ap (λ (z : Option Process). Some z) q.1)) (p.2 ∙ sym q.2) in
      omega (arith, same)))

  actor_there : (n : ℕ) (o : Option Process) → slice_get table n ≡ Some o → AllByRecursion (Stands alive_one refl m.actors) (actor_count o)
  actor_there n None e = tt
  actor_there n (Some p) e = let run = t.run (n + 1) p (alive n p e) in ((run.regions, run.there, refl), tt)

  living : sum_by alive_one m.actors ≡ sum_by amount (all_of actor_count table)
  living = sum_alive alive_one refl (all_of actor_count table) m.actors actors_once (each_all actor_count (Stands alive_one refl m.actors) table actor_there)
      (λ k regions e. (let f = t.no_more_actors k regions e in let at = numbered_place table f.0 f.1 f.2 in of_one actor_count k table (f.0 - 1) (Some f.1) at.1 (inl f.3)))

  each_living : (n : ℕ) (o : Option Process) → slice_get table n ≡ Some o → sum_by amount (actor_count o) ≡ cond (is_some (option_map (process_seen m) o)) 1 0
  each_living n None e = refl
  each_living n (Some p) e = one (p.actor.0, 1)

  -- Caches of processes

  -- a process's own cache
  own_in : (k n : ℕ) (o : Option Process) → slice_get table n ≡ Some o → IsAmong k (own_count o) → (i : ℕ) × Owns (numbered table) (n + 1) i k
  own_in k n None e a = absurd a
  own_in k n (Some p) e a =
      let r = from_one part_count k p.parts.items a in
      let own = part_in k r.1 r.3 in
      (r.0, record { process = p; part = r.1; there = alive n p e; has = r.2; own = own.0; is = own.1 })

  owns_part : (n : ℕ) (p : Process) → slice_get table n ≡ Some (Some p) → (i k : ℕ) (part : Part) → slice_get p.parts.items i ≡ Some part → IsAmong k (part_count part) → Owns (numbered table) (n + 1) i k
  owns_part n p e i k part has a = let own = part_in k part a in record { process = p; part = part; there = alive n p e; has = has; own = own.0; is = own.1 }

  own_once : (n : ℕ) (o : Option Process) → slice_get table n ≡ Some o → AreOnce (own_count o)
  own_once n None e = tt
  own_once n (Some p) e = once_all part_count p.parts.items (λ i part has. part_once part)
      (λ i j k x y has had a b. (t.caches_apart (n + 1) (n + 1) i j k (owns_part n p e i k x has a) (owns_part n p e j k y had b)).1)

  owns_once : AreOnce (all_of own_count table)
  owns_once = once_all own_count table own_once (λ n j k o x e f a b.
      (let p = own_in k n o e a in let q = own_in k j x f b in
      let same : n + 1 ≡ j + 1 = (t.caches_apart (n + 1) (j + 1) p.0 q.0 k p.1 q.1).0 in
      omega (arith, same)))

  owned : (n i k : ℕ) (o : Owns (numbered table) n i k) → IsOwnCache m o.part
  owned n i k o = own_cache m o.part.area o.part o.own (all_at (λ (part : Part). IsPart m part.area part) o.process.parts.items i o.part (t.run n o.process o.there).parts o.has)

  abbrev InCaches : Count → Type 0
  InCaches c = Stands pages_in refl m.caches c

  part_there : (n : ℕ) (p : Process) → slice_get table n ≡ Some (Some p) → (i : ℕ) (part : Part) → slice_get p.parts.items i ≡ Some part → AllByRecursion InCaches (part_count part)
  part_there n p e i part has = by (may_write part.area) refl
    where
      by : (b : Bool) → may_write part.area ≡ b → AllByRecursion InCaches (cond b ((part.cache.0, part.pages) ∷ []) [])
      by true own = let c : IsOwnCache m part = owned (n + 1) i part.cache.0 (record { process = p; part = part; there = alive n p e; has = has; own = own; is = refl }) in ((c.cache, c.there, c.many), tt)
      by false own = tt

  own_there : (n : ℕ) (o : Option Process) → slice_get table n ≡ Some o → AllByRecursion InCaches (own_count o)
  own_there n None e = tt
  own_there n (Some p) e = each_all part_count InCaches p.parts.items (part_there n p e)

  -- Caches of images

  image_apart : (i j k : ℕ) (x y : Image) → slice_get images i ≡ Some x → slice_get images j ≡ Some y → IsAmong k (image_count m x) → IsAmong k (image_count m y) → i ≡ j
  image_apart i j k x y e f (inl a) (inl b) =
      let c = t.images_there i x e in
      let d = t.images_there j y f in
      let named : Some x.seg.0 ≡ Some y.seg.0 = sym c.2 ∙ ap segment_in (sym c.1 ∙ ap (cache_of m) (a ∙ sym b) ∙ d.1) ∙ d.2 in
      t.images_apart i j x y e f (let same : x.seg.0 ≡ y.seg.0 = cc in same)
  image_apart i j k x y e f (inr a) b = absurd a
  image_apart i j k x y e f (inl a) (inr b) = absurd b

  images_once : AreOnce (all_of (image_count m) images)
  images_once = once_all (image_count m) images (λ i image e. (λ a. a, tt)) image_apart

  image_there : (i : ℕ) (image : Image) → slice_get images i ≡ Some image → AllByRecursion InCaches (image_count m image)
  image_there i image e = let c = t.images_there i image e in ((c.0, c.1, sym (ap (λ (pages : List Page). length pages) (pages_there m image.cache.0 c.0 c.1))), tt)

  -- All caches

  abbrev counts : List Count
  counts = all_of (image_count m) images ++ all_of own_count table

  -- an image's cache is no process's own
  no_both : (k i : ℕ) (image : Image) → slice_get images i ≡ Some image → IsAmong k (image_count m image) → (n j : ℕ) → Owns (numbered table) n j k → ⊥
  no_both k i image e (inr a) n j o = a
  no_both k i image e (inl a) n j o =
      let c = t.images_there i image e in
      let d : IsOwnCache m o.part = owned n j k o in
      let wrong : Some image.seg.0 ≡ None = sym c.2 ∙ ap segment_in (sym c.1 ∙ ap (cache_of m) (a ∙ sym o.is) ∙ d.there) ∙ d.temporary in
      absurd (cc wrong)

  caches_once : AreOnce counts
  caches_once = once_both (all_of (image_count m) images) (all_of own_count table) images_once owns_once (λ k a b.
      (let i = from_one (image_count m) k images a in let n = from_one own_count k table b in let o = own_in k n.0 n.1 n.2 n.3 in no_both k i.0 i.1 i.2 i.3 (n.0 + 1) o.0 o.1))

  only : (k : ℕ) (c : Cache) → cache_of m k ≡ Some c → IsAmong k counts
  only k c e = by c.segment refl
    where
      by : (o : Option ℕ) → c.segment ≡ o → IsAmong k counts
      by (Some seg) named = let f = t.no_more_images k seg c e named in in_front k (all_of (image_count m) images) (all_of own_count table) (of_one (image_count m) k images f.0 f.1 f.2 (inl f.3))
      by None temporary = elim (t.no_more_caches k c e temporary) [
        | inl s ↦ absurd s
        | inr f ↦ (let o = f.2 in let at = numbered_place table f.0 o.process o.there in
            behind k (all_of (image_count m) images) (all_of own_count table) (of_one own_count k table (f.0 - 1) (Some o.process) at.1 (of_one part_count k o.process.parts.items f.1 o.part o.has (in_part k o.part o.own o.is))))
      ]

  live : sum_by pages_in m.caches ≡ sum_by amount counts
  live = sum_alive pages_in refl counts m.caches caches_once (all_both InCaches (all_of (image_count m) images) (all_of own_count table) (each_all (image_count m) InCaches images image_there) (each_all own_count InCaches table own_there)) only

  each_own : (n : ℕ) (o : Option Process) → slice_get table n ≡ Some o → sum_by amount (own_count o) ≡ own_pages (option_map (process_seen m) o)
  each_own n None e = refl
  each_own n (Some p) e = let run : IsRun m p = t.run (n + 1) p (alive n p e) in omega (arith, parts_sum p.parts.items, seen_length m Data p.parts.items run.parts, seen_length m Stack p.parts.items run.parts)

  has_these : HasThese (processes_seen m table images) (usage_of m)
  has_these = record {
    living = living ∙ sum_all actor_count (option_map (process_seen m)) (λ o. cond (is_some o) 1 0) table each_living;
    pages = omega (
      arith,
      live,
      sum_by-append amount (all_of (image_count m) images) (all_of own_count table),
      sum_all (image_count m) (image_seen m) (λ (image : ℕ × List Page). length image.1) images (λ i image e. one (image.cache.0, length (cache_pages m image.cache.0))),
      sum_all own_count (option_map (process_seen m)) own_pages table each_own,
    );
  }

-- what is had where the processes can be called
pub had : {Manager X Chooser : Type 0} (G : GhostsOfGmi Manager X Chooser) (mix : Mix Manager) (told : Option Held) (page_bytes : Option ℕ) → CanCall G mix told page_bytes → HasThese (state_of G mix told).processes (state_of G mix told).usage
had G mix told page_bytes can = has_these (G.machine mix.gmi told) mix.processes.items mix.images.items can.tied
