-- Numbers under a renaming, and what lists of regions with other numbers of caches tell.
use Rattle.std.proofs.Common.{◌≡◌, ◌≢◌, ◌==◌, ◌⊎◌, inl, inr, ℕ, zero, suc, ◌+◌, ◌%◌, Bool, true, false, cond, List, [], ◌∷◌, ◌++◌, map, set, Option, Some, None, refl, sym, ap, ◌∙◌}
use Rattle.std.specs.Prelude.{◌&&◌, ◌||◌, count_by, filter, is_some, nat_le, nat_lt, not, option_map, Result, Ok, Err}
use Rattle.std.specs.List.{list_any}
use Rattle.std.specs.Option.{option_or}
use Rattle.std.proofs.lemmas.Bool.{cases_eq, eq-eqb, ne_eqb, or_right, or_left}
use Rattle.std.proofs.lemmas.List.Sums.{sum_by-cons}
use Rattle.vm_ids.specs.declared.refusal.Refusal.TheVariants.{Crosses}
use Rattle.vm_model.specs.Regions.{region_among, region_with}
use Rattle.interface_callers.proofs.Words.{Actor, Place, Refusal, Region, holds, insert_region, locks, locks_any, maps_in, place_of_actor, placed, region_at, without_region}
use Rattle.interface_callers.proofs.Lists.{one_of}
use Rattle.seg_manager.specs.Limits.{Renaming, renamed_actors, renamed_region, with_pair}
use Rattle.seg_manager.proofs.Lookup.Entries.{fun_same}

-- A pair more

module _ (j k : ℕ) (f : Renaming) (a : ℕ) where
  pub pair_at : a ≡ j → with_pair j k f a ≡ k
  pair_at e = ap (λ (b : Bool). cond b k (cond (f a == k) (f j) (f a))) (eq-eqb a j e)

  pub pair_taken : a ≢ j → f a ≡ k → with_pair j k f a ≡ f j
  pair_taken apart e =
      ap (λ (b : Bool). cond b k (cond (f a == k) (f j) (f a))) (ne_eqb a j apart)
      ∙ ap (λ (b : Bool). cond b (f j) (f a)) (eq-eqb (f a) k e)

  pub pair_other : a ≢ j → f a ≢ k → with_pair j k f a ≡ f a
  pair_other apart other =
      ap (λ (b : Bool). cond b k (cond (f a == k) (f j) (f a))) (ne_eqb a j apart)
      ∙ ap (λ (b : Bool). cond b (f j) (f a)) (ne_eqb (f a) k other)

-- what leads back does so with one more pair
pub pair_back : (j k : ℕ) (f g : Renaming) → ((a : ℕ) → g (f a) ≡ a) → (a : ℕ) → with_pair k j g (with_pair j k f a) ≡ a
pair_back j k f g back a = elim (cases_eq a j) [
  | inl e ↦ ap (with_pair k j g) (pair_at j k f a e) ∙ pair_at k j g k refl ∙ sym e
  | inr apart ↦ elim (cases_eq (f a) k) [
    | inl e ↦ ap (with_pair k j g) (pair_taken j k f a apart e)
        ∙ pair_taken k j g (f j) (λ q. apart (sym (back a) ∙ ap g (e ∙ sym q) ∙ back j)) (back j)
        ∙ ap g (sym e) ∙ back a
    | inr other ↦ ap (with_pair k j g) (pair_other j k f a apart other)
        ∙ pair_other k j g (f a) other (λ q. apart (sym (back a) ∙ q))
        ∙ back a
  ]
]

-- a pair that is one already
pub pair_again : (j : ℕ) (f : Renaming) → with_pair j (f j) f ≡ f
pair_again j f = fun_same (with_pair j (f j) f) f (λ a. elim (cases_eq a j) [
  | inl e ↦ pair_at j (f j) f a e ∙ ap f (sym e)
  | inr apart ↦ elim (cases_eq (f a) (f j)) [
    | inl e ↦ pair_taken j (f j) f a apart e ∙ sym e
    | inr other ↦ pair_other j (f j) f a apart other
  ]
])

-- Lists

pub any_map : {A B : Type 0} (p : A → Bool) (q : B → Bool) (g : A → B) → ((x : A) → q (g x) ≡ p x) → (xs : List A) → list_any q (map g xs) ≡ list_any p xs
any_map p q g e [] = refl
any_map p q g e (x ∷ xs) = λ i. e x i || any_map p q g e xs i

cond_map : {A B : Type 0} (f : A → B) (b : Bool) (x y : A) → cond b (f x) (f y) ≡ f (cond b x y)
cond_map f true x y = refl
cond_map f false x y = refl

or_map : {A B : Type 0} (f : A → B) (x y : Option A) → option_or (option_map f x) (option_map f y) ≡ option_map f (option_or x y)
or_map f None y = refl
or_map f (Some x) y = refl

abbrev pub ok_map : {A B : Type 0} → (A → B) → Result A Refusal → Result B Refusal
ok_map f (Err r) = Err r
ok_map f (Ok x) = Ok (f x)

-- Regions with other caches
module _ (r : Renaming) where
  abbrev f : Region → Region
  f = renamed_region r

  among_renamed : (number : ℕ) (rs : Actor) → region_among number (map f rs) ≡ option_map f (region_among number rs)
  among_renamed number [] = refl
  among_renamed number (x ∷ rs) =
      ap (cond (x.number == number) (Some (f x))) (among_renamed number rs)
      ∙ cond_map (option_map f) (x.number == number) (Some x) (region_among number rs)

  pub with_renamed : (number : ℕ) (xs : List (Option Actor)) → region_with number (renamed_actors r xs) ≡ option_map f (region_with number xs)
  with_renamed number [] = refl
  with_renamed number (None ∷ xs) = with_renamed number xs
  with_renamed number (Some rs ∷ xs) =
      (λ i. option_or (among_renamed number rs i) (with_renamed number xs i))
      ∙ or_map f (region_among number rs) (region_with number xs)

  pub insert_renamed : (x : Region) (rs : Actor) → insert_region (f x) (map f rs) ≡ map f (insert_region x rs)
  insert_renamed x [] = refl
  insert_renamed x (y ∷ rs) =
      ap (λ (ys : Actor). cond (nat_lt x.start y.start) (f x ∷ f y ∷ map f rs) (f y ∷ ys)) (insert_renamed x rs)
      ∙ cond_map (map f) (nat_lt x.start y.start) (x ∷ y ∷ rs) (y ∷ insert_region x rs)

  filter_renamed : (number : ℕ) (rs : Actor) → without_region number (map f rs) ≡ map f (without_region number rs)
  filter_renamed number [] = refl
  filter_renamed number (x ∷ rs) =
      ap (λ (ys : Actor). cond (not (x.number == number)) (f x ∷ ys) ys) (filter_renamed number rs)
      ∙ cond_map (map f) (not (x.number == number)) (x ∷ without_region number rs) (without_region number rs)

  pub without_renamed : (number : ℕ) (xs : List (Option Actor)) → map (option_map (without_region number)) (renamed_actors r xs) ≡ renamed_actors r (map (option_map (without_region number)) xs)
  without_renamed number [] = refl
  without_renamed number (None ∷ xs) = ap (λ (ys : List (Option Actor)). None ∷ ys) (without_renamed number xs)
  without_renamed number (Some rs ∷ xs) = λ i. Some (filter_renamed number rs i) ∷ without_renamed number xs i

  abbrev pub placed_by : Place → Place
  placed_by p = record p { region = f p.region }

  at_renamed : (b address : ℕ) (rs : Actor) → region_at b address (map f rs) ≡ option_map f (region_at b address rs)
  at_renamed b address [] = refl
  at_renamed b address (x ∷ rs) =
      ap (cond (holds b address x) (Some (f x))) (at_renamed b address rs)
      ∙ cond_map (option_map f) (holds b address x) (Some x) (region_at b address rs)

  placed_renamed : (b address : ℕ) (o : Option Region) → placed b address (option_map f o) ≡ ok_map placed_by (placed b address o)
  placed_renamed b address None = refl
  placed_renamed b address (Some x) = refl

  pub place_renamed : (b : ℕ) (o : Option Actor) (address length : ℕ) → place_of_actor b (option_map (map f) o) address length ≡ ok_map placed_by (place_of_actor b o address length)
  place_renamed b None address length = refl
  place_renamed b (Some rs) address length =
      ap (cond crosses (Err Crosses)) (ap (placed b address) (at_renamed b address rs) ∙ placed_renamed b address (region_at b address rs))
      ∙ cond_map (ok_map placed_by) crosses (Err Crosses) (placed b address (region_at b address rs))
    where
      crosses : Bool
      crosses = nat_lt b (address % b + length)

  -- where no two numbers become one
  module _ (same : (a b : ℕ) → (r a == r b) ≡ (a == b)) where
    maps_renamed : (cache : ℕ) (o : Option Actor) → maps_in (r cache) (option_map (map f) o) ≡ maps_in cache o
    maps_renamed cache None = refl
    maps_renamed cache (Some rs) = any_map (λ (x : Region). x.cache == cache) (λ (x : Region). x.cache == r cache) f (λ x. same x.cache cache) rs

    pub mapped_renamed : (cache : ℕ) (xs : List (Option Actor)) → list_any (maps_in (r cache)) (renamed_actors r xs) ≡ list_any (maps_in cache) xs
    mapped_renamed cache xs = any_map (maps_in cache) (maps_in (r cache)) (option_map (map f)) (maps_renamed cache) xs

    locks_renamed : (cache page : ℕ) (o : Option Actor) → locks_any (r cache) page (option_map (map f) o) ≡ locks_any cache page o
    locks_renamed cache page None = refl
    locks_renamed cache page (Some rs) =
        any_map (locks cache page) (locks (r cache) page) f
        (λ x. ap (λ (b : Bool). x.locked && b && nat_le x.offset page && nat_lt page (x.offset + x.pages)) (same x.cache cache)) rs

    pub locked_renamed : (cache page : ℕ) (xs : List (Option Actor)) → list_any (locks_any (r cache) page) (renamed_actors r xs) ≡ list_any (locks_any cache page) xs
    locked_renamed cache page xs = any_map (locks_any cache page) (locks_any (r cache) page) (option_map (map f)) (locks_renamed cache page) xs

-- The same of two renamings that agree at the caches of these regions

module _ (r s : Renaming) where
  regions_agree : (rs : Actor) → ((k : ℕ) → list_any (λ (x : Region). x.cache == k) rs ≡ true → r k ≡ s k) → map (renamed_region r) rs ≡ map (renamed_region s) rs
  regions_agree [] agree = refl
  regions_agree (x ∷ rs) agree = λ i.
      record x { cache = agree x.cache (or_left (x.cache == x.cache) (list_any (λ (y : Region). y.cache == x.cache) rs) (eq-eqb x.cache x.cache refl)) i }
      ∷ regions_agree rs (λ k e. agree k (or_right (x.cache == k) (list_any (λ (y : Region). y.cache == k) rs) e)) i

  pub actors_agree : (xs : List (Option Actor)) → ((k : ℕ) → list_any (maps_in k) xs ≡ true → r k ≡ s k) → renamed_actors r xs ≡ renamed_actors s xs
  actors_agree [] agree = refl
  actors_agree (None ∷ xs) agree = ap (λ (ys : List (Option Actor)). None ∷ ys) (actors_agree xs agree)
  actors_agree (Some rs ∷ xs) agree = λ i.
      Some (regions_agree rs (λ k e. agree k (or_left (list_any (λ (y : Region). y.cache == k) rs) (list_any (maps_in k) xs) e)) i)
      ∷ actors_agree xs (λ k e. agree k (or_right (list_any (λ (y : Region). y.cache == k) rs) (list_any (maps_in k) xs) e)) i

-- What is mapped once actors changed

module _ {A : Type 0} (p : A → Bool) where
  any_more : (a : Bool) (xs ys : List A) → (list_any p xs ≡ true → list_any p ys ≡ true) → (a || list_any p xs) ≡ true → (a || list_any p ys) ≡ true
  any_more true xs ys f e = refl
  any_more false xs ys f e = f e

  pub any_push : (xs : List A) (x : A) → p x ≡ false → list_any p (xs ++ x ∷ []) ≡ true → list_any p xs ≡ true
  any_push [] x none e = absurd (let both : (p x || false) ≡ true = e in elim (one_of (p x) false both) [ inl y ↦ cc (none, y) | inr y ↦ cc y ])
  any_push (y ∷ xs) x none e = any_more (p y) (xs ++ x ∷ []) xs (any_push xs x none) e

  pub any_set : (xs : List A) (i : ℕ) (x : A) → list_any p (set xs i x) ≡ true → (p x ≡ true) ⊎ (list_any p xs ≡ true)
  any_set [] i x e = inr e
  any_set (y ∷ xs) zero x e = elim (one_of (p x) (list_any p xs) e) [
    | inl q ↦ inl q
    | inr q ↦ inr (or_right (p y) (list_any p xs) q)
  ]
  any_set (y ∷ xs) (suc i) x e = elim (one_of (p y) (list_any p (set xs i x)) e) [
    | inl q ↦ inr (ap (λ (b : Bool). b || list_any p xs) q)
    | inr q ↦ elim (any_set xs i x q) [
      | inl s ↦ inl s
      | inr s ↦ inr (or_right (p y) (list_any p xs) s)
    ]
  ]

  any_filter : (keep : A → Bool) (xs : List A) → list_any p (filter keep xs) ≡ true → list_any p xs ≡ true
  any_filter keep [] e = e
  any_filter keep (x ∷ xs) e = by (keep x) (any_filter keep xs) e
    where
      by : (b : Bool) → (list_any p (filter keep xs) ≡ true → list_any p xs ≡ true) → list_any p (cond b (x ∷ filter keep xs) (filter keep xs)) ≡ true → (p x || list_any p xs) ≡ true
      by true rest e = any_more (p x) (filter keep xs) xs rest e
      by false rest e = or_right (p x) (list_any p xs) (rest e)

  pub any_change : (g : A → A) → ((x : A) → p (g x) ≡ true → p x ≡ true) → (xs : List A) → list_any p (map g xs) ≡ true → list_any p xs ≡ true
  any_change g f [] e = e
  any_change g f (x ∷ xs) e = elim (one_of (p (g x)) (list_any p (map g xs)) e) [
    | inl q ↦ ap (λ (b : Bool). b || list_any p xs) (f x q)
    | inr q ↦ or_right (p x) (list_any p xs) (any_change g f xs q)
  ]

pub any_insert : (p : Region → Bool) (x : Region) (rs : Actor) → list_any p (insert_region x rs) ≡ true → (p x ≡ true) ⊎ (list_any p rs ≡ true)
any_insert p x [] e = one_of (p x) false e
any_insert p x (y ∷ rs) e = by (nat_lt x.start y.start) (any_insert p x rs) e
  where
    by : (b : Bool) → (list_any p (insert_region x rs) ≡ true → (p x ≡ true) ⊎ (list_any p rs ≡ true)) → list_any p (cond b (x ∷ y ∷ rs) (y ∷ insert_region x rs)) ≡ true → (p x ≡ true) ⊎ ((p y || list_any p rs) ≡ true)
    by true rest e = one_of (p x) (p y || list_any p rs) e
    by false rest e = elim (one_of (p y) (list_any p (insert_region x rs)) e) [
      | inl q ↦ inr (ap (λ (b : Bool). b || list_any p rs) q)
      | inr q ↦ elim (rest q) [
        | inl s ↦ inl s
        | inr s ↦ inr (or_right (p y) (list_any p rs) s)
      ]
    ]

pub without_maps : (k number : ℕ) (o : Option Actor) → maps_in k (option_map (without_region number) o) ≡ true → maps_in k o ≡ true
without_maps k number None e = e
without_maps k number (Some rs) e = any_filter (λ (r : Region). r.cache == k) (λ (r : Region). not (r.number == number)) rs e

-- as many actors live
pub living_renamed : (r : Renaming) (xs : List (Option Actor)) → count_by is_some (renamed_actors r xs) ≡ count_by is_some xs
living_renamed r [] = refl
living_renamed r (x ∷ xs) =
    sum_by-cons (λ (o : Option Actor). cond (is_some o) 1 0) (option_map (map (renamed_region r)) x) (renamed_actors r xs)
    ∙ (λ i. cond (as_there x i) 1 0 + living_renamed r xs i)
    ∙ sym (sum_by-cons (λ (o : Option Actor). cond (is_some o) 1 0) x xs)
  where
    as_there : (o : Option Actor) → is_some (option_map (map (renamed_region r)) o) ≡ is_some o
    as_there None = refl
    as_there (Some a) = refl
