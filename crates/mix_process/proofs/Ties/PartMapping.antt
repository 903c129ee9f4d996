-- A part is mapped into a process, behind what its area has.
use Rattle.std.proofs.Common.{◌≡◌, ◌≢◌, ◌⊎◌, inl, inr, ℕ, ◌+◌, ◌-◌, ◌*◌, ◌≤◌, Bool, false, cond, List, [], ◌∷◌, ◌++◌, length, set, Option, Some, refl, sym, ap, subst, ◌∙◌, arith}
use Rattle.std.specs.Prelude.{◌&&◌, nat_lt, slice_get}
use Rattle.std.specs.List.{AllByRecursion, list_any}
use Rattle.std.proofs.lemmas.Bool.{cases_eq}
use Rattle.std.proofs.lemmas.Bool.Decides.{nat_tests}
use Rattle.std.proofs.lemmas.Option.{slice_get_within}
use Rattle.vm_model.specs.Regions.{mapping_of}
use Rattle.vm_model.proofs.Parts.Lists.{get_set_same, numbered_place}
use Rattle.vm_model.proofs.Parts.ListParts.{numbered_set_other}
use Rattle.interface_callers.proofs.Words.{Actor, ActorId, Machine, Mapping, Region, actor_of, add_region, insert_region, numbered, overlaps, region_of}
use Rattle.interface_callers.proofs.Lists.{get_append, get_last, get_snoc, none_any, number_at}
use Rattle.mix_process.specs.ProcessMachine.{area_start, may_write}
use Rattle.mix_process.specs.Adding.{most_of}
use Rattle.mix_process.specs.Seen.{mapping_behind, pages_in, same_area}
use Rattle.mix_process.specs.Tying.{AreMapped, AreTied, IsPart, IsOwnPart, IsRun, IsSingle, IsSmall, Owns, none_spare}
use Rattle.mix_process.specs.Tying.AreMapped.{none, more}
use Rattle.mix_process.specs.declared.area.Area.{Area}
use Rattle.mix_process.specs.declared.area.Area.TheVariants.{Data, Stack, Text}
use Rattle.mix_process.specs.declared.mix.Image.{Image}
use Rattle.mix_process.specs.declared.process.Part.{Part}
use Rattle.mix_process.specs.declared.process.Process.{Process}
use Rattle.mix_process.proofs.Ties.Clearing.{inserted_one, parts_kept, run_kept}
use Rattle.mix_process.proofs.Reading.Looking.{pages-append, same_self}

-- Where the regions of parts lie

-- The region lies in what an area has.
record LiesIn (parts : List Part) (x : Region) : Type 0 where
  pub area : Area
  pub from : area_start area ≤ x.start
  pub to : x.start + 4096 * x.pages ≤ area_start area + 4096 * pages_in area parts

one_more : (parts : List Part) (p : Part) → pages_in p.area (parts ++ p ∷ []) ≡ pages_in p.area parts + p.pages
one_more parts p = pages-append p.area parts (p ∷ []) ∙ ap (λ (b : Bool). pages_in p.area parts + (cond b p.pages 0 + 0)) (same_self p.area) ∙ (let e : pages_in p.area parts + (p.pages + 0) ≡ pages_in p.area parts + p.pages = omega arith in e)

lies_more : (parts : List Part) (p : Part) (x : Region) → LiesIn parts x → LiesIn (parts ++ p ∷ []) x
lies_more parts p x l = record { area = l.area; from = l.from; to = omega (arith, l.to, pages-append l.area parts (p ∷ [])) }

lies_new : (before : List Part) (p : Part) (r : Region) → mapping_of r ≡ mapping_behind before p → LiesIn (before ++ p ∷ []) r
lies_new before p r is =
    let start : r.start ≡ area_start p.area + 4096 * pages_in p.area before = ap (λ (q : Mapping). q.address) is in
    let size : r.pages ≡ p.pages = ap (λ (q : Mapping). q.extent.pages) is in
    record { area = p.area; from = omega (arith, start); to = omega (arith, start, size, one_more before p) }

region_lies : {parts : List Part} {regions : Actor} → AreMapped parts regions → (k : ℕ) (x : Region) → slice_get regions k ≡ Some x → LiesIn parts x
region_lies none k x e = absurd (cc e)
region_lies (more before rs p r rest is) k x e = elim (inserted_one r rs k x e) [
  | inl same ↦ subst (LiesIn (before ++ p ∷ [])) (sym same) (lies_new before p r is.mapping)
  | inr f ↦ lies_more before p x (region_lies rest f.0 x f.1)
]

pub small_in : (parts : List Part) → IsSmall parts → (a : Area) → pages_in a parts ≤ most_of a
small_in parts small Text = small.text
small_in parts small Data = small.data_pages
small_in parts small Stack = small.stack

-- what lies in an area lies in front of new pages of the same, and beside those of another
beside : (a b : Area) (start size n k pages : ℕ) → area_start a ≤ start → start + size ≤ area_start a + 4096 * n → n ≤ most_of a → k + pages ≤ most_of b → (a ≡ b → n ≡ k)
    → (start + size ≤ area_start b + 4096 * k) ⊎ (area_start b + 4096 * k + 4096 * pages ≤ start)
beside Text Text start size n k pages from to small few same = inl (let e : n ≡ k = same refl in omega (arith, to, e))
beside Text Data start size n k pages from to small few same = inl (omega (arith, to, small))
beside Text Stack start size n k pages from to small few same = inl (omega (arith, to, small))
beside Data Text start size n k pages from to small few same = inr (omega (arith, from, few))
beside Data Data start size n k pages from to small few same = inl (let e : n ≡ k = same refl in omega (arith, to, e))
beside Data Stack start size n k pages from to small few same = inl (omega (arith, to, small))
beside Stack Text start size n k pages from to small few same = inr (omega (arith, from, few))
beside Stack Data start size n k pages from to small few same = inr (omega (arith, from, few))
beside Stack Stack start size n k pages from to small few same = inl (let e : n ≡ k = same refl in omega (arith, to, e))

apart_by : (address size start other : ℕ) → (start + other ≤ address) ⊎ (address + size ≤ start) → (nat_lt address (start + other) && nat_lt start (address + size)) ≡ false
apart_by address size start other (inl h) = grind (arith, nat_tests)
apart_by address size start other (inr h) = grind (arith, nat_tests)

-- the new pages of a part overlap no region of the process
pub none_overlaps : (parts : List Part) (regions : Actor) → AreMapped parts regions → IsSmall parts → (p : Part) → pages_in p.area parts + p.pages ≤ most_of p.area
    → list_any (overlaps 4096 (area_start p.area + 4096 * pages_in p.area parts) p.pages) regions ≡ false
none_overlaps parts regions mapped small p few =
    none_any (overlaps 4096 (area_start p.area + 4096 * pages_in p.area parts) p.pages) regions (λ i x e.
    let l = region_lies mapped i x e in
    apart_by (area_start p.area + 4096 * pages_in p.area parts) (4096 * p.pages) x.start (4096 * x.pages)
    (beside l.area p.area x.start (4096 * x.pages) (pages_in l.area parts) (pages_in p.area parts) p.pages l.from l.to (small_in parts small l.area) few (λ same. ap (λ (a : Area). pages_in a parts) same)))

-- The process with one part more

same_or : (a b : Area) → (a ≡ b) ⊎ (same_area b a ≡ false)
same_or Text Text = inl refl
same_or Text Data = inr refl
same_or Text Stack = inr refl
same_or Data Text = inr refl
same_or Data Data = inl refl
same_or Data Stack = inr refl
same_or Stack Text = inr refl
same_or Stack Data = inr refl
same_or Stack Stack = inl refl

small_more : (parts : List Part) (p : Part) → IsSmall parts → pages_in p.area parts + p.pages ≤ most_of p.area → IsSmall (parts ++ p ∷ [])
small_more parts p small few = record { text = by Text p.area refl few small.text; data_pages = by Data p.area refl few small.data_pages; stack = by Stack p.area refl few small.stack }
  where
    by : (a b : Area) → p.area ≡ b → pages_in p.area parts + p.pages ≤ most_of p.area → pages_in a parts ≤ most_of a → pages_in a (parts ++ p ∷ []) ≤ most_of a
    by a b e few less = elim (same_or a b) [
      | inl same ↦ (let f : p.area ≡ a = e ∙ sym same in subst (λ (x : Area). pages_in x (parts ++ p ∷ []) ≤ most_of x) f (omega (arith, few, one_more parts p)))
      | inr other ↦ omega (arith, less, pages-append a parts (p ∷ []), (let zero_more : cond (same_area p.area a) p.pages 0 ≡ 0 = ap (λ (x : Area). cond (same_area x a) p.pages 0) e ∙ ap (λ (t : Bool). cond t p.pages 0) other in zero_more))
    ]

pub all_snoc : {A : Type 0} (P : A → Type 0) (xs : List A) (x : A) → AllByRecursion P xs → P x → AllByRecursion P (xs ++ x ∷ [])
all_snoc P [] x all h = (h, tt)
all_snoc P (y ∷ xs) x all h = (all.0, all_snoc P xs x all.1 h)

-- the last of a list, or one before it
split_snoc : (xs : List Part) (x : Part) (before behind : List Part) (part : Part) → xs ++ x ∷ [] ≡ before ++ part ∷ behind
    → ((before ≡ xs) × (part ≡ x)) ⊎ ((rest : List Part) × (xs ≡ before ++ part ∷ rest))
split_snoc [] x [] behind part e = inl (refl, (let same : x ≡ part = cc in sym same))
split_snoc [] x (b ∷ before) behind part e = absurd (no_front before part behind (let same : [] ≡ before ++ part ∷ behind = cc in same))
  where
    no_front : (before : List Part) (part : Part) (behind : List Part) → [] ≡ before ++ part ∷ behind → ⊥
    no_front [] part behind e = absurd (cc e)
    no_front (c ∷ before) part behind e = absurd (cc e)
split_snoc (y ∷ xs) x [] behind part e = inr (xs, (let same : y ≡ part = cc in ap (λ z. z ∷ xs) same))
split_snoc (y ∷ xs) x (b ∷ before) behind part e =
    let same : y ≡ b = cc in
    let rest : xs ++ x ∷ [] ≡ before ++ part ∷ behind = cc in
    elim (split_snoc xs x before behind part rest) [
      | inl f ↦ inl ((λ i. sym same i ∷ f.0 i), f.1)
      | inr f ↦ inr (f.0, (λ i. same i ∷ f.1 i))
    ]

single_more : (parts : List Part) (p : Part) → IsSingle parts → (p.area ≢ Data → pages_in p.area parts ≡ 0) → IsSingle (parts ++ p ∷ [])
single_more parts p single first before behind part e other = elim (split_snoc parts p before behind part e) [
  | inl f ↦ (λ (h : part.area ≢ Data). ap (λ (x : Part). pages_in x.area before) f.1 ∙ ap (pages_in p.area) f.0 ∙ first (λ g. h (ap (λ (x : Part). x.area) f.1 ∙ g))) other
  | inr f ↦ single before f.0 part f.1 other
]

-- Its run in the machine with the new region

module _ (m : Machine) (p : Process) (run : IsRun m p) (part : Part) (is_part : IsPart m part.area part) (few : pages_in part.area p.parts.items + part.pages ≤ most_of part.area) (first : part.area ≢ Data → pages_in part.area p.parts.items ≡ 0) where
  abbrev pub mapped_to : Machine
  mapped_to = add_region m p.actor.0 run.regions (mapping_behind p.parts.items part)

  abbrev pub new : Region
  new = region_of (m.regions_made + 1) (mapping_behind p.parts.items part)

  place : (1 ≤ p.actor.0) × (slice_get m.actors (p.actor.0 - 1) ≡ Some (Some run.regions))
  place = numbered_place m.actors p.actor.0 run.regions run.there

  pub actor_there : actor_of mapped_to p.actor.0 ≡ Some (insert_region new run.regions)
  actor_there = number_at (set m.actors (p.actor.0 - 1) (Some (insert_region new run.regions))) p.actor.0 (Some (insert_region new run.regions)) place.0 (get_set_same m.actors (p.actor.0 - 1) (Some (insert_region new run.regions)) (slice_get_within m.actors (p.actor.0 - 1) (Some run.regions) place.1))

  pub actor_other : (k : ℕ) → k ≢ p.actor.0 → actor_of mapped_to k ≡ actor_of m k
  actor_other k other = numbered_set_other m.actors p.actor.0 k (Some (insert_region new run.regions)) place.0 other

  -- a process with the same actor and this part more runs in it
  pub run_more : (q : Process) → q.actor ≡ p.actor → q.parts.items ≡ p.parts.items ++ part ∷ [] → IsRun mapped_to q
  run_more q actor parts = record {
    regions = insert_region new run.regions;
    there = ap (λ (a : ActorId). actor_of mapped_to a.0) actor ∙ actor_there;
    mapped = subst (λ (xs : List Part). AreMapped xs (insert_region new run.regions)) (sym parts) (more p.parts.items run.regions part new run.mapped (record { mapping = refl; unlocked = refl; apart = none_overlaps p.parts.items run.regions run.mapped run.small part few }));
    parts = subst (λ (xs : List Part). AllByRecursion (λ (x : Part). IsPart mapped_to x.area x) xs) (sym parts) (parts_kept m mapped_to (p.parts.items ++ part ∷ []) (λ j x e. refl) (all_snoc (λ (x : Part). IsPart m x.area x) p.parts.items part run.parts is_part));
    small = subst IsSmall (sym parts) (small_more p.parts.items part run.small few);
    single = subst IsSingle (sym parts) (single_more p.parts.items part run.single first);
  }

-- The ties of the machine with the new region

module _ (m : Machine) (table : List (Option Process)) (spare : ℕ → Type 0) (images : List Image) (t : AreTied m (numbered table) spare images) (n0 : ℕ) (p q : Process) (alive : numbered table n0 ≡ Some p)
    (part : Part) (is_part : IsPart m part.area part) (few : pages_in part.area p.parts.items + part.pages ≤ most_of part.area) (first : part.area ≢ Data → pages_in part.area p.parts.items ≡ 0)
    (spare_is : (k : ℕ) → spare k → IsOwnPart part × (k ≡ part.cache.0)) (is_spare : IsOwnPart part → spare part.cache.0)
    (actor : q.actor ≡ p.actor) (parts : q.parts.items ≡ p.parts.items ++ part ∷ []) where
  run : IsRun m p
  run = t.run n0 p alive

  abbrev pub table_with : List (Option Process)
  table_with = set table (n0 - 1) (Some q)

  abbrev pub machine_with : Machine
  machine_with = add_region m p.actor.0 (t.run n0 p alive).regions (mapping_behind p.parts.items part)

  at : (1 ≤ n0) × (slice_get table (n0 - 1) ≡ Some (Some p))
  at = numbered_place table n0 p alive

  q_there : numbered table_with n0 ≡ Some q
  q_there = number_at table_with n0 (Some q) at.0 (get_set_same table (n0 - 1) (Some q) (slice_get_within table (n0 - 1) (Some p) at.1))

  others_same : (k : ℕ) → k ≢ n0 → numbered table_with k ≡ numbered table k
  others_same k other = numbered_set_other table n0 k (Some q) at.0 other

  -- the process of a number is the new one, or what it was
  which : (k : ℕ) (r : Process) → numbered table_with k ≡ Some r → ((k ≡ n0) × (r ≡ q)) ⊎ ((k ≢ n0) × (numbered table k ≡ Some r))
  which k r e = elim (cases_eq k n0) [
    | inl same ↦ inl (same, (let both : Some r ≡ Some q = sym e ∙ ap (numbered table_with) same ∙ q_there in cc both))
    | inr other ↦ inr (other, sym (others_same k other) ∙ e)
  ]

  -- its actor was there under the same number
  had : (k : ℕ) (r : Process) → numbered table_with k ≡ Some r → (x : Process) × (numbered table k ≡ Some x) × (x.actor ≡ r.actor)
  had k r e = elim (which k r e) [
    | inl f ↦ (p, ap (numbered table) f.0 ∙ alive, sym actor ∙ sym (ap (λ (x : Process). x.actor) f.1))
    | inr f ↦ (r, f.1, refl)
  ]

  -- whose a cache is now: it was so before, or it is the new part's
  owned : (k i cache : ℕ) → Owns (numbered table_with) k i cache → Owns (numbered table) k i cache ⊎ ((k ≡ n0) × (i ≡ length p.parts.items) × (cache ≡ part.cache.0) × IsOwnPart part)
  owned k i cache o = elim (which k o.process o.there) [
    | inr f ↦ inl (record { process = o.process; part = o.part; there = f.1; has = o.has; own = o.own; is = o.is })
    | inl f ↦ (let has : slice_get (p.parts.items ++ part ∷ []) i ≡ Some o.part = ap (λ (xs : List Part). slice_get xs i) (sym parts) ∙ ap (λ (x : Process). slice_get x.parts.items i) (sym f.1) ∙ o.has in
        elim (get_snoc p.parts.items part i o.part has) [
          | inl g ↦ inl (record { process = p; part = o.part; there = ap (numbered table) f.0 ∙ alive; has = g; own = o.own; is = o.is })
          | inr g ↦ inr (f.0, g.0, sym o.is ∙ ap (λ (x : Part). x.cache.0) g.1, ap (λ (x : Part). may_write x.area) (sym g.1) ∙ o.own)
        ])
  ]

  -- and the other way round
  still_owned : (k i cache : ℕ) → Owns (numbered table) k i cache → Owns (numbered table_with) k i cache
  still_owned k i cache o = elim (cases_eq k n0) [
    | inr other ↦ record { process = o.process; part = o.part; there = others_same k other ∙ o.there; has = o.has; own = o.own; is = o.is }
    | inl same ↦ (let who : Some o.process ≡ Some p = sym o.there ∙ ap (numbered table) same ∙ alive in let it : o.process ≡ p = cc who in
        record { process = q; part = o.part; there = ap (numbered table_with) same ∙ q_there; has = ap (λ (xs : List Part). slice_get xs i) parts ∙ get_append p.parts.items (part ∷ []) i o.part (ap (λ (x : Process). slice_get x.parts.items i) (sym it) ∙ o.has); own = o.own; is = o.is })
  ]

  apart_now : (k j i l cache : ℕ) → Owns (numbered table_with) k i cache → Owns (numbered table_with) j l cache → (k ≡ j) × (i ≡ l)
  apart_now k j i l cache o x = go (owned k i cache o) (owned j l cache x)
    where
      go : Owns (numbered table) k i cache ⊎ ((k ≡ n0) × (i ≡ length p.parts.items) × (cache ≡ part.cache.0) × IsOwnPart part) → Owns (numbered table) j l cache ⊎ ((j ≡ n0) × (l ≡ length p.parts.items) × (cache ≡ part.cache.0) × IsOwnPart part) → (k ≡ j) × (i ≡ l)
      go (inl a) (inl b) = t.caches_apart k j i l cache a b
      go (inl a) (inr b) = absurd (t.spares_free k i cache (subst spare (sym b.2) (is_spare b.3)) a)
      go (inr a) (inl b) = absurd (t.spares_free j l cache (subst spare (sym a.2) (is_spare a.3)) b)
      go (inr a) (inr b) = (a.0 ∙ sym b.0, a.1 ∙ sym b.1)

  run_now : (k : ℕ) (r : Process) → numbered table_with k ≡ Some r → IsRun machine_with r
  run_now k r e = elim (which k r e) [
    | inl f ↦ subst (IsRun machine_with) (sym f.1) (run_more m p (t.run n0 p alive) part is_part few first q actor parts)
    | inr f ↦ run_kept m machine_with r (actor_other m p (t.run n0 p alive) part is_part few first r.actor.0 (λ same. f.0 (t.actors_apart k n0 r p f.1 alive same))) (λ j x g. refl) (t.run k r f.1)
  ]

  pub tied_mapped : AreTied machine_with (numbered table_with) none_spare images
  tied_mapped = record {
    page = t.page;
    run = run_now;
    actors_apart = λ k j r x e f same. (let a = had k r e in let b = had j x f in t.actors_apart k j a.0 b.0 a.1 b.1 (ap (λ (z : ActorId). z.0) a.2 ∙ same ∙ ap (λ (z : ActorId). z.0) (sym b.2)));
    caches_apart = apart_now;
    spares = λ cache s. absurd s;
    spares_free = λ k i cache s o. s;
    no_more_actors = λ number regions e. elim (cases_eq number p.actor.0) [
      | inl same ↦ (n0, q, q_there, ap (λ (z : ActorId). z.0) actor ∙ sym same)
      | inr other ↦ (let f = t.no_more_actors number regions (sym (actor_other m p (t.run n0 p alive) part is_part few first number other) ∙ e) in
          (f.0, f.1, others_same f.0 (λ same. other (sym f.3 ∙ (let who : Some f.1 ≡ Some p = sym f.2 ∙ ap (numbered table) same ∙ alive in ap (λ (x : Process). x.actor.0) (let it : f.1 ≡ p = cc who in it)))) ∙ f.2, f.3))
    ];
    no_more_caches = λ cache c e temporary. elim (t.no_more_caches cache c e temporary) [
      | inl s ↦ (let own = spare_is cache s in inr (n0, length p.parts.items, record { process = q; part = part; there = q_there; has = ap (λ (xs : List Part). slice_get xs (length p.parts.items)) parts ∙ get_last p.parts.items part; own = own.0; is = sym own.1 }))
      | inr o ↦ inr (o.0, o.1, still_owned o.0 o.1 cache o.2)
    ];
    images_there = t.images_there;
    images_apart = t.images_apart;
    no_more_images = t.no_more_images;
  }
