-- Frames are taken and given back, and pages become loose or a cache's.
use Rattle.std.proofs.Common.{◌≡◌, ◌≢◌, ◌==◌, ℕ, zero, suc, ◌+◌, ◌-◌, ◌<◌, ◌≤◌, Bool, true, false, cond, not, List, [], ◌∷◌, ◌++◌, length, get_or, set, take, drop, map, replicate, Option, Some, None, refl, sym, ap, subst, ◌∙◌, arith, inl, inr}
use Rattle.std.specs.Prelude.{option_map, slice_get, sum_by}
use Rattle.std.specs.List.{All}
use Rattle.std.specs.Option.{option_map_or}
use Rattle.std.proofs.lemmas.Bool.{cases_eq}
use Rattle.std.proofs.lemmas.Bool.Decides.{nat_tests}
use Rattle.std.proofs.lemmas.List.{drop-drop, drop-map, get_or-set_same, length-append, length-map, length-replicate, length-set, map-append, map_push, take-append-drop, take-map, length-take-le}
use Rattle.std.proofs.lemmas.List.Elements.{All-head, All-set, All-tail}
use Rattle.std.proofs.lemmas.List.Sums.{sum_by-append, sum_by-cons, sum_by_push}
use Rattle.std.proofs.lemmas.Option.{slice_get-get_or}
use Rattle.vm_ids.specs.declared.numbers.SegId.{SegId}
use Rattle.vm_model.specs.Answering.{overwrite}
use Rattle.vm_model.specs.Machine.{numbered, zero_page}
use Rattle.vm_model.proofs.Parts.Lists.{at_number, numbered-map, sum_by_swap}
use Rattle.frame_pool.specs.Pool.{Frames, is_held, with_bytes}
use Rattle.flat_mm.specs.Frames.{Framed}
use Rattle.flat_mm.specs.Store.{Cache, Page, Store, put_pages, with_cache, zeros}
use Rattle.flat_mm.specs.Layout.{IsFramed, cache_shown, caches_shown, free_frames, page_shown, pages_in, store_shown, times_used, uses}
use Rattle.flat_mm.specs.declared.framed.FramedPage.{FramedPage}
use Rattle.flat_mm.proofs.Framing.{bit, bit_same, cache_uses, caches_else, pages_set, shown_else, used_within, uses_some}

abbrev free : Bool → ℕ
free held = cond (not held) 1 0

abbrev with_held : Frames → ℕ → Bool → Frames
with_held f g held = record f { held = set f.held g held }

bit_other : (g : ℕ) (p : FramedPage) → p.frame.0 ≢ g → bit g p ≡ 0
bit_other g p other = go (p.frame.0 == g) refl
  where
    go : (b : Bool) → (p.frame.0 == g) ≡ b → ◌≡◌ {A = ℕ} (cond b 1 0) 0
    go true e = absurd (other (grind (arith, nat_tests)))
    go false e = refl

held_else : (xs : List Bool) (g h : ℕ) (b : Bool) → h ≢ g → get_or (set xs g b) h false ≡ get_or xs h false
held_else [] g h b other = refl
held_else (x ∷ xs) zero zero b other = absurd (other refl)
held_else (x ∷ xs) zero (suc h) b other = refl
held_else (x ∷ xs) (suc g) zero b other = refl
held_else (x ∷ xs) (suc g) (suc h) b other = held_else xs g h b (λ e. other (ap suc e))

free_set : (xs : List Bool) (g : ℕ) (b : Bool) → g < length xs → sum_by free (set xs g b) + free (get_or xs g false) ≡ sum_by free xs + free b
free_set xs g b less = sum_by_swap free xs g (get_or xs g false) b (slice_get-get_or xs g false less)

-- where each frame is held none is free
pub none_free : (f : Frames) → All (λ held. held ≡ true) f.held → free_frames f ≡ 0
none_free f h = go f.held h
  where
    go : (xs : List Bool) → All (λ held. held ≡ true) xs → sum_by free xs ≡ 0
    go [] h = refl
    go (x ∷ xs) h = omega (arith, sum_by-cons free x xs, ap free (All-head (λ held. held ≡ true) x xs h), go xs (All-tail (λ held. held ≡ true) x xs h))

-- what is so of a frame, by whether it is this one
by_frame : (P : ℕ → Type 0) (g : ℕ) → P g → ((h : ℕ) → h ≢ g → P h) → (h : ℕ) → P h
by_frame P g here others h = elim (cases_eq h g) [
  | inl same ↦ subst P (sym same) here
  | inr other ↦ others h other
]

module _ (f : Frames) (caches : List (Option Framed)) (loose : List FramedPage) (S : IsFramed f caches loose) where
  -- A frame is taken

  module _ (p : FramedPage) (fresh : p.changed ≡ false) (less : p.frame.0 < length f.held) (unheld : is_held f p.frame.0 ≡ false) where
    abbrev g : ℕ
    g = p.frame.0

    abbrev took : Frames
    took = with_bytes (with_held f g true) g (zero_page f.page)

    unused : times_used caches loose g ≡ 0
    unused = S.used g ∙ ap {B = ℕ} (λ (b : Bool). cond b 1 0) unheld

    fewer : free_frames took + 1 ≡ free_frames f
    fewer = omega (arith, free_set f.held g true less, ap free unheld)

    there : g < length f.bytes
    there = omega (arith, less, S.frames.listed)

    pub took_seen : store_shown took caches (loose ++ p ∷ []) ≡ record (store_shown f caches loose) { free = free_frames f - 1; loose = map (page_shown f) loose ++ zeros f.page ∷ [] }
    took_seen =
        let pushed = map_push (page_shown took) loose p in
        let page : page_shown took p ≡ zeros f.page = (λ i. record { bytes = get_or-set_same f.bytes g (zero_page f.page) [] there i; changed = fresh i }) in
        let left : free_frames took ≡ free_frames f - 1 = omega (arith, fewer) in
        let none : uses g loose ≡ 0 = omega (arith, unused) in
        let same = shown_else (with_held f g true) g (zero_page f.page) loose none in
        (λ i. record (store_shown f caches loose) {
          frames = length-set f.held g true i;
          free = left i;
          caches = caches_else (with_held f g true) g (zero_page f.page) caches (omega (arith, unused)) i;
          loose = (pushed ∙ (λ j. same j ++ page j ∷ [])) i;
        })

  -- A loose page is filled

  module _ (at : ℕ) (p : FramedPage) (here : slice_get loose at ≡ Some p) where
    used_loose : times_used caches loose p.frame.0 ≡ 1
    used_loose = go (is_held f p.frame.0) refl
      where
        go : (b : Bool) → is_held f p.frame.0 ≡ b → times_used caches loose p.frame.0 ≡ 1
        go true e = S.used p.frame.0 ∙ ap {B = ℕ} (λ (b : Bool). cond b 1 0) e
        go false e = absurd (omega (arith, S.used p.frame.0, ap {B = ℕ} (λ (b : Bool). cond b 1 0) e, uses_some loose at p here))

    pub loose_within : p.frame.0 < length f.held
    loose_within = used_within f caches loose S p.frame.0 (omega (arith, used_loose))

    pub filled_seen : (w : List ℕ) → store_shown (with_bytes f p.frame.0 w) caches (set loose at (record { frame = p.frame; changed = false })) ≡ record (store_shown f caches loose) { loose = set (map (page_shown f) loose) at (record { bytes = w; changed = false }) }
    filled_seen w =
        let some = uses_some loose at p here in
        (λ i. record (store_shown f caches loose) {
          caches = caches_else f p.frame.0 w caches (omega (arith, used_loose, some)) i;
          loose = pages_set f p.frame.0 w (omega (arith, loose_within, S.frames.listed)) false loose at p here refl (omega (arith, used_loose)) i;
        })

    pub filled_sound : (w : List ℕ) → length w ≡ f.page → IsFramed (with_bytes f p.frame.0 w) caches (set loose at (record { frame = p.frame; changed = false }))
    filled_sound w full =
        let q : FramedPage = record { frame = p.frame; changed = false } in
        record {
          frames = record {
            few = S.frames.few;
            listed = omega (arith, S.frames.listed, length-set f.bytes p.frame.0 w);
            whole = All-set (λ b. length b ≡ f.page) f.bytes p.frame.0 w full S.frames.whole;
            unpinned = S.frames.unpinned;
          };
          used = λ h. omega (arith, sum_by_swap (bit h) loose at p q here) ∙ S.used h;
          counted = omega (arith, length-set loose at q, S.counted);
        }

  -- the last loose page gives its frame back

  module _ (rest : List FramedPage) (p : FramedPage) (is : loose ≡ rest ++ p ∷ []) where
    abbrev gave : Frames
    gave = with_held f p.frame.0 false

    uses_is : (h : ℕ) → uses h loose ≡ uses h rest + bit h p
    uses_is h = ap (uses h) is ∙ sum_by_push (bit h) rest p

    used_once : times_used caches loose p.frame.0 ≡ 1
    used_once = go (is_held f p.frame.0) refl
      where
        go : (b : Bool) → is_held f p.frame.0 ≡ b → times_used caches loose p.frame.0 ≡ 1
        go true e = S.used p.frame.0 ∙ ap {B = ℕ} (λ (b : Bool). cond b 1 0) e
        go false e = absurd (omega (arith, S.used p.frame.0, ap {B = ℕ} (λ (b : Bool). cond b 1 0) e, uses_is p.frame.0, bit_same p.frame.0 p refl))

    held_there : (b : Bool) → is_held f p.frame.0 ≡ b → b ≡ true
    held_there true e = refl
    held_there false e = absurd (omega (arith, used_once, S.used p.frame.0, ap {B = ℕ} (λ (b : Bool). cond b 1 0) e))

    within_list : (xs : List Bool) (g : ℕ) → get_or xs g false ≡ true → g < length xs
    within_list [] g e = absurd (cc e)
    within_list (x ∷ xs) zero e = omega arith
    within_list (x ∷ xs) (suc g) e = omega (arith, within_list xs g e)

    held_now : is_held f p.frame.0 ≡ true
    held_now = held_there (is_held f p.frame.0) refl

    low : p.frame.0 < length f.held
    low = within_list f.held p.frame.0 held_now

    more : free_frames gave ≡ free_frames f + 1
    more = omega (arith, free_set f.held p.frame.0 false low, ap free held_now)

    many : length loose ≡ length rest + 1
    many = ap length is ∙ length-append rest (p ∷ [])

    pub gave_sound : IsFramed gave caches rest
    gave_sound = record {
      frames = record {
        few = omega (arith, S.frames.few, length-set f.held p.frame.0 false);
        listed = omega (arith, S.frames.listed, length-set f.held p.frame.0 false);
        whole = S.frames.whole;
        unpinned = S.frames.unpinned;
      };
      used = by_frame (λ h. times_used caches rest h ≡ cond (is_held gave h) 1 0) p.frame.0
          (omega (arith, used_once, uses_is p.frame.0, bit_same p.frame.0 p refl) ∙ sym (ap {B = ℕ} (λ (b : Bool). cond b 1 0) (get_or-set_same f.held p.frame.0 false false low)))
          (λ h other. omega (arith, uses_is h, bit_other h p (λ e. other (sym e)), S.used h) ∙ sym (ap {B = ℕ} (λ (b : Bool). cond b 1 0) (held_else f.held p.frame.0 h false other)));
      counted = omega (arith, many, more, S.counted, length-set f.held p.frame.0 false);
    }

    pub gave_seen : store_shown gave caches rest ≡ record (store_shown f caches loose) { free = free_frames f + 1; loose = take (length (map (page_shown f) loose) - 1) (map (page_shown f) loose) }
    gave_seen =
        let shown : map (page_shown f) loose ≡ map (page_shown f) rest ++ page_shown f p ∷ [] = ap (map (page_shown f)) is ∙ map_push (page_shown f) rest p in
        let front : take (length (map (page_shown f) loose) - 1) (map (page_shown f) loose) ≡ map (page_shown f) rest =
        ap (λ n. take n (map (page_shown f) loose)) (let e : length (map (page_shown f) loose) - 1 ≡ length (map (page_shown f) rest) = omega (arith, many, length-map loose (page_shown f), length-map rest (page_shown f)) in e)
        ∙ ap (take (length (map (page_shown f) rest))) shown
        ∙ front_of (map (page_shown f) rest) (page_shown f p ∷ []) in
        (λ i. record (store_shown f caches loose) { frames = length-set f.held p.frame.0 false i; free = more i; loose = sym front i })
      where
        front_of : (xs ys : List Page) → take (length xs) (xs ++ ys) ≡ xs
        front_of [] ys = refl
        front_of (x ∷ xs) ys = ap (λ zs. x ∷ zs) (front_of xs ys)

-- Pages go from list to list

parts : {A : Type 0} (first n : ℕ) (xs : List A) → xs ≡ take first xs ++ (take n (drop first xs) ++ drop (first + n) xs)
parts first n xs = sym (take-append-drop first xs) ∙ ap (λ ys. take first xs ++ ys) (sym (take-append-drop n (drop first xs)) ∙ ap (λ ys. take n (drop first xs) ++ ys) (drop-drop n first xs))

-- a part is exchanged for another
exchanged_sum : {A : Type 0} (h : A → ℕ) (first : ℕ) (part xs : List A) → sum_by h (overwrite first part xs) + sum_by h (take (length part) (drop first xs)) ≡ sum_by h xs + sum_by h part
exchanged_sum h first part xs =
    let n = length part in
    omega (
      arith,
      sum_by-append h (take first xs ++ part) (drop (first + n) xs),
      sum_by-append h (take first xs) part,
      ap (sum_by h) (parts first n xs),
      sum_by-append h (take first xs) (take n (drop first xs) ++ drop (first + n) xs),
      sum_by-append h (take n (drop first xs)) (drop (first + n) xs),
    )

exchanged_length : {A : Type 0} (first : ℕ) (part xs : List A) → length (overwrite first part xs) + length (take (length part) (drop first xs)) ≡ length xs + length part
exchanged_length first part xs =
    let n = length part in
    omega (
      arith,
      length-append (take first xs ++ part) (drop (first + n) xs),
      length-append (take first xs) part,
      ap length (parts first n xs),
      length-append (take first xs) (take n (drop first xs) ++ drop (first + n) xs),
      length-append (take n (drop first xs)) (drop (first + n) xs),
    )

pub map-overwrite : {A B : Type 0} (k : A → B) (first : ℕ) (part xs : List A) → map k (overwrite first part xs) ≡ overwrite first (map k part) (map k xs)
map-overwrite k first part xs =
    map-append k (take first xs ++ part) (drop (first + length part) xs)
    ∙ (λ i. (map-append k (take first xs) part ∙ ap (λ ys. ys ++ map k part) (sym (take-map k first xs))) i ++ (sym (drop-map k (first + length part) xs) ∙ ap (λ n. drop (first + n) (map k xs)) (sym (length-map part k))) i)

module _ (f : Frames) (caches : List (Option Framed)) (loose : List FramedPage) (S : IsFramed f caches loose) (n : ℕ) (c : Framed) (at : numbered caches n ≡ Some c) where
  place : slice_get caches (n - 1) ≡ Some (Some c)
  place = at_number caches n c at

  alive : numbered (caches_shown f caches) n ≡ Some (cache_shown f c)
  alive = numbered-map (cache_shown f) caches n ∙ ap (option_map (cache_shown f)) at

  map-set : (k : Option Framed → Option Cache) (xs : List (Option Framed)) (i : ℕ) (x : Option Framed) → map k (set xs i x) ≡ set (map k xs) i (k x)
  map-set k [] i x = refl
  map-set k (y ∷ xs) zero x = refl
  map-set k (y ∷ xs) (suc i) x = ap (λ ys. k y ∷ ys) (map-set k xs i x)

  -- pages of a cache are exchanged for the loose ones
  module _ (first : ℕ) where
    abbrev changed : Framed
    changed = record c { pages = overwrite first loose c.pages }

    abbrev left : List FramedPage
    left = take (length loose) (drop first c.pages)

    pub exchanged_sound : IsFramed f (set caches (n - 1) (Some changed)) left
    exchanged_sound = record {
      frames = S.frames;
      used = λ g. omega (arith, sum_by_swap (cache_uses f g []) caches (n - 1) (Some c) (Some changed) place, exchanged_sum (bit g) first loose c.pages) ∙ S.used g;
      counted = omega (arith, sum_by_swap (λ o. length (pages_in o)) caches (n - 1) (Some c) (Some changed) place, exchanged_length first loose c.pages, S.counted);
    }

    pub exchanged_seen : store_shown f (set caches (n - 1) (Some changed)) left ≡ record (store_shown f caches loose) {
      caches = with_cache n (put_pages first (map (page_shown f) loose)) (caches_shown f caches);
      loose = take (length (map (page_shown f) loose)) (drop first (option_map_or (λ (c : Cache). c.pages) (numbered (caches_shown f caches) n) []));
    }
    exchanged_seen =
        let put = ap (λ (ps : List Page). Some (let d : Cache = record { segment = c.segment; pages = ps } in d)) (map-overwrite (page_shown f) first loose c.pages) in
        let caches_are = map-set (option_map (cache_shown f)) caches (n - 1) (Some changed) ∙ ap (set (caches_shown f caches) (n - 1)) put
        ∙ ap (λ (o : Option Cache). set (caches_shown f caches) (n - 1) (option_map (put_pages first (map (page_shown f) loose)) o)) (sym alive) in
        let loose_is = sym (take-map (page_shown f) (length loose) (drop first c.pages)) ∙ (λ i. take (sym (length-map loose (page_shown f)) i) (sym (drop-map (page_shown f) first c.pages) i))
        ∙ ap (λ (o : Option Cache). take (length (map (page_shown f) loose)) (drop first (option_map_or (λ (c : Cache). c.pages) o []))) (sym alive) in
        (λ i. record (store_shown f caches loose) { caches = caches_are i; loose = loose_is i })

  -- a cache goes, and its pages are loose
  module _ (none : loose ≡ []) where
    pub released_sound : IsFramed f (set caches (n - 1) None) c.pages
    released_sound = record {
      frames = S.frames;
      used = λ g. omega (arith, sum_by_swap (cache_uses f g []) caches (n - 1) (Some c) None place, ap (uses g) none) ∙ S.used g;
      counted = omega (arith, sum_by_swap (λ o. length (pages_in o)) caches (n - 1) (Some c) None place, ap length none, S.counted);
    }

    pub released_seen : store_shown f (set caches (n - 1) None) c.pages ≡ record (store_shown f caches loose) {
      caches = set (caches_shown f caches) (n - 1) None;
      loose = option_map_or (λ (c : Cache). c.pages) (numbered (caches_shown f caches) n) [];
    }
    released_seen = (λ i. record (store_shown f caches loose) {
      caches = map-set (option_map (cache_shown f)) caches (n - 1) None i;
      loose = ap (λ (o : Option Cache). option_map_or (λ (c : Cache). c.pages) o []) (sym alive) i;
    })

-- All loose pages go, one after the other

pub record IsDropping (old now : Store) : Type 0 where
  pub page : now.page_bytes ≡ old.page_bytes
  pub frames : now.frames ≡ old.frames
  pub caches : now.caches ≡ old.caches
  pub counted : now.free + length now.loose ≡ old.free + length old.loose

pub dropped : (old now next : Store) → 1 ≤ length now.loose → next ≡ record now { free = now.free + 1; loose = take (length now.loose - 1) now.loose } → IsDropping old now → IsDropping old next
dropped old now next some is d = record {
  page = ap (λ (s : Store). s.page_bytes) is ∙ d.page;
  frames = ap (λ (s : Store). s.frames) is ∙ d.frames;
  caches = ap (λ (s : Store). s.caches) is ∙ d.caches;
  counted = omega (arith, ap (λ (s : Store). s.free) is, ap (λ (s : Store). length s.loose) is, length-take-le (length now.loose - 1) now.loose (omega (arith, some)), some, d.counted);
}

pub dropped_all : (old now : Store) → length now.loose ≡ 0 → IsDropping old now → now ≡ record old { free = old.free + length old.loose; loose = [] }
dropped_all old now none d = λ i. record { page_bytes = d.page i; frames = d.frames i; free = (let e : now.free ≡ old.free + length old.loose = omega (arith, d.counted, none) in e) i; caches = d.caches i; loose = empty now.loose none i }
  where
    empty : (ps : List Page) → length ps ≡ 0 → ps ≡ []
    empty [] e = refl
    empty (p ∷ ps) e = absurd (omega (arith, e))

-- So many are taken

abbrev pub taken : Store → ℕ → Store
taken s n = record s { free = s.free - n; loose = replicate n (zeros s.page_bytes) }

pub taken_more : (s now next : Store) (n m : ℕ) → m ≡ n + 1 → now ≡ taken s n → next ≡ record now { free = now.free - 1; loose = now.loose ++ zeros now.page_bytes ∷ [] } → next ≡ taken s m
taken_more s now next n m step is then =
    then ∙ ap (λ (t : Store). record t { free = t.free - 1; loose = t.loose ++ zeros t.page_bytes ∷ [] }) is
    ∙ (λ i. record s { free = (let e : s.free - n - 1 ≡ s.free - m = omega (arith, step) in e) i; loose = (more n ∙ ap (λ k. replicate k (zeros s.page_bytes)) (let e : suc n ≡ m = omega (arith, step) in e)) i })
  where
    more : (k : ℕ) → replicate k (zeros s.page_bytes) ++ zeros s.page_bytes ∷ [] ≡ replicate (suc k) (zeros s.page_bytes)
    more zero = refl
    more (suc k) = ap (λ ps. zeros s.page_bytes ∷ ps) (more k)

pub taken_none : (s : Store) → s.loose ≡ [] → s ≡ taken s 0
taken_none s none = λ i. record s { free = (let e : s.free ≡ s.free - 0 = omega arith in e) i; loose = none i }

pub taken_back : (s now next : Store) (n : ℕ) → n ≤ s.free → s.loose ≡ [] → now ≡ taken s n → next ≡ record now { free = now.free + length now.loose; loose = [] } → next ≡ s
taken_back s now next n few none is then =
    then ∙ ap (λ (t : Store). record t { free = t.free + length t.loose; loose = [] }) is
    ∙ (λ i. record s { free = (let e : s.free - n + length (replicate n (zeros s.page_bytes)) ≡ s.free = omega (arith, few, length-replicate n (zeros s.page_bytes)) in e) i; loose = sym none i })

-- The loose pages become a cache

abbrev made : Option SegId → List FramedPage → Framed
made segment loose = record { segment = segment; pages = loose }

pub adopted : (f : Frames) (caches : List (Option Framed)) (loose : List FramedPage) → IsFramed f caches loose → (segment : Option SegId) (now : List (Option Framed)) (then : List FramedPage)
    → now ≡ caches ++ Some (record { segment = segment; pages = loose }) ∷ [] → then ≡ [] → IsFramed f now then
adopted f caches loose S segment now then is none = subst (IsFramed f now) (sym none) (subst (λ (cs : List (Option Framed)). IsFramed f cs []) (sym is) (record {
  frames = S.frames;
  used = λ g. omega (arith, sum_by_push (cache_uses f g []) caches (Some (made segment loose))) ∙ S.used g;
  counted = omega (arith, sum_by_push (λ o. length (pages_in o)) caches (Some (made segment loose)), S.counted);
}))
