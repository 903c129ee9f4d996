-- A page of a cache of its own of one process changes.
use Rattle.std.proofs.Common.{◌≡◌, ◌≢◌, ℕ, zero, suc, ◌+◌, ◌-◌, ◌<◌, ◌≤◌, Bool, true, false, cond, List, [], ◌∷◌, ◌++◌, length, set, take, map, Option, Some, None, refl, sym, ap, subst, ◌∙◌, arith}
use Rattle.std.specs.Prelude.{option_map, slice_get}
use Rattle.std.specs.Option.{option_map_or}
use Rattle.std.proofs.lemmas.List.{length-set}
use Rattle.std.proofs.lemmas.Option.{slice_get_within}
use Rattle.vm_model.proofs.Parts.Lists.{numbered_place}
use Rattle.vm_model.proofs.Parts.ListParts.{numbered_set, numbered_set_other}
use Rattle.interface_callers.proofs.Words.{Cache, Machine, Page, cache_of, numbered, put_cache, put_page}
use Rattle.interface_callers.proofs.Lists.{all_at, get_append, map_same, number_at}
use Rattle.interface_callers.proofs.Alike.{HasShape, IsLike, shape_put}
use Rattle.mix_process.specs.ProcessMachine as model
use Rattle.mix_process.specs.ProcessMachine.{may_write, with_pages}
use Rattle.mix_process.specs.Answering.{put_process}
use Rattle.mix_process.specs.Seen.{area_seen, cache_pages, image_seen, pages_in, part_seen, process_seen, processes_seen, same_area, sizes_in}
use Rattle.mix_process.specs.Tying.{AreTied, IsImageCache, IsOwnPart, IsPart, Owns}
use Rattle.mix_process.specs.declared.area.Area.{Area}
use Rattle.mix_process.specs.declared.area.Area.TheVariants.{Data, Stack, Text}
use Rattle.mix_process.specs.declared.mix.Image.{Image}
use Rattle.mix_process.specs.declared.process.Part.{Part}
use Rattle.mix_process.specs.declared.process.Process.{Process}
use Rattle.mix_process.proofs.Reading.Places.{get_past}
use Rattle.mix_process.proofs.Reading.Looking.{same_self}
use Rattle.mix_process.proofs.Reading.Seeing.{AreParts, all_parts, pages_there, part_length, seen-append, seen_length}

-- Lists

pub map_but : {A B : Type 0} (f g : A → B) (xs : List A) (k : ℕ) (x : A) (v : B) → slice_get xs k ≡ Some x → f x ≡ v → ((i : ℕ) (y : A) → slice_get xs i ≡ Some y → i ≢ k → f y ≡ g y) → map f xs ≡ set (map g xs) k v
map_but f g [] k x v there is h = absurd (cc there)
map_but f g (y ∷ xs) zero x v there is h =
    let same : y ≡ x = cc in
    λ j. (ap f same ∙ is) j ∷ map_same f g xs (λ i z e. h (suc i) z e (λ q. cc q)) j
map_but f g (y ∷ xs) (suc k) x v there is h = λ j. h 0 y refl (λ q. cc q) j ∷ map_but f g xs k x v there is (λ i z e other. h (suc i) z e (λ q. other (cc q))) j

set_right : {A : Type 0} (xs ys : List A) (n i : ℕ) (v : A) → length xs ≡ n → set (xs ++ ys) (n + i) v ≡ xs ++ set ys i v
set_right [] ys n i v e = ap (λ (k : ℕ). set ys k v) (let q : n + i ≡ i = omega (arith, e) in q)
set_right (x ∷ xs) ys zero i v e = absurd (omega (arith, e))
set_right (x ∷ xs) ys (suc n) i v e = ap (λ (k : ℕ). set (x ∷ (xs ++ ys)) k v) (let q : suc n + i ≡ suc (n + i) = omega arith in q) ∙ ap (λ zs. x ∷ zs) (set_right xs ys n i v (omega (arith, e)))

set_left : {A : Type 0} (xs ys : List A) (i : ℕ) (v : A) → i < length xs → set (xs ++ ys) i v ≡ set xs i v ++ ys
set_left [] ys i v h = absurd (omega arith)
set_left (x ∷ xs) ys zero v h = refl
set_left (x ∷ xs) ys (suc i) v h = ap (λ zs. x ∷ zs) (set_left xs ys i v (omega arith))

take_set : {A : Type 0} (xs : List A) (n i : ℕ) (v : A) → take n (set xs i v) ≡ set (take n xs) i v
take_set [] zero i v = refl
take_set [] (suc n) i v = refl
take_set (x ∷ xs) zero zero v = refl
take_set (x ∷ xs) zero (suc i) v = refl
take_set (x ∷ xs) (suc n) zero v = refl
take_set (x ∷ xs) (suc n) (suc i) v = ap (λ zs. x ∷ zs) (take_set xs n i v)

get_middle : {A : Type 0} (xs : List A) (x : A) (ys : List A) → slice_get (xs ++ x ∷ ys) (length xs) ≡ Some x
get_middle [] x ys = refl
get_middle (y ∷ xs) x ys = get_middle xs x ys

-- A cache becomes one like it

module _ (m : Machine) (number : ℕ) (c d : Cache) (there : cache_of m number ≡ Some c) (like : IsLike c d) where
  abbrev replaced : Machine
  replaced = put_cache m number d

  place : (1 ≤ number) × (slice_get m.caches (number - 1) ≡ Some (Some c))
  place = numbered_place m.caches number c there

  pub became : cache_of replaced number ≡ Some d
  became = numbered_set m.caches number c (Some d) there

  pub stayed : (k : ℕ) → k ≢ number → cache_of replaced k ≡ cache_of m k
  stayed k other = numbered_set_other m.caches number k (Some d) place.0 other

-- A page of a cache

module _ (m : Machine) (number : ℕ) (c : Cache) (there : cache_of m number ≡ Some c) (page : ℕ) (bytes : Page) where
  abbrev pub after : Machine
  after = put_cache m number (put_page page bytes c)

  like_put : IsLike c (put_page page bytes c)
  like_put = record { segment = refl; many = length-set c.pages page bytes }

  pub put_there : cache_of after number ≡ Some (put_page page bytes c)
  put_there = became m number c (put_page page bytes c) there like_put

  pub put_other : (k : ℕ) → k ≢ number → cache_of after k ≡ cache_of m k
  put_other k other = stayed m number c (put_page page bytes c) there like_put k other

  pub put_shape : HasShape m after
  put_shape = shape_put m number c (put_page page bytes c) there like_put

  pub pages_put : cache_pages after number ≡ set (cache_pages m number) page bytes
  pages_put = pages_there after number (put_page page bytes c) put_there ∙ ap (λ (pages : List Page). set pages page bytes) (sym (pages_there m number c there))

  pub pages_other : (k : ℕ) → k ≢ number → cache_pages after k ≡ cache_pages m k
  pages_other k other = ap (λ (o : Option Cache). option_map_or (λ (c : Cache). c.pages) o []) (put_other k other)

-- What is seen of parts whose caches have the same pages

pub seen_same : (m n : Machine) (area : Area) (parts : List Part) → ((j : ℕ) (part : Part) → slice_get parts j ≡ Some part → cache_pages n part.cache.0 ≡ cache_pages m part.cache.0) → area_seen n area parts ≡ area_seen m area parts
seen_same m n area [] h = refl
seen_same m n area (p ∷ ps) h = λ i. cond (same_area p.area area) (take p.pages (h 0 p refl i)) [] ++ seen_same m n area ps (λ j part e. h (suc j) part e) i

pub process_same : (m n : Machine) (p : Process) → ((j : ℕ) (part : Part) → slice_get p.parts.items j ≡ Some part → cache_pages n part.cache.0 ≡ cache_pages m part.cache.0) → process_seen n p ≡ process_seen m p
process_same m n p h = λ i. record {
  text_pages = seen_same m n Text p.parts.items h i;
  data_pages = seen_same m n Data p.parts.items h i;
  stack_pages = seen_same m n Stack p.parts.items h i;
  pieces = sizes_in Data p.parts.items;
}

-- The page is of one part

module _ (m n : Machine) (before : List Part) (part : Part) (behind : List Part) (parts_are : AreParts m (before ++ part ∷ behind)) (page : ℕ) (bytes : Page) (within : page < part.pages)
    (here : cache_pages n part.cache.0 ≡ set (cache_pages m part.cache.0) page bytes)
    (others : (j : ℕ) (other : Part) → slice_get (before ++ part ∷ behind) j ≡ Some other → j ≢ length before → cache_pages n other.cache.0 ≡ cache_pages m other.cache.0) where
  front_same : (area : Area) → area_seen n area before ≡ area_seen m area before
  front_same area = seen_same m n area before (λ j other e. others j other (get_append before (part ∷ behind) j other e) (let less : j < length before = slice_get_within before j other e in λ q. omega (arith, less, q)))

  back_same : (area : Area) → area_seen n area behind ≡ area_seen m area behind
  back_same area = seen_same m n area behind (λ j other e. others (length before + suc j) other (get_behind_all before part behind j ∙ e) (λ q. omega (arith, q)))
    where
      get_behind_all : (xs : List Part) (x : Part) (ys : List Part) (j : ℕ) → slice_get (xs ++ x ∷ ys) (length xs + suc j) ≡ slice_get ys j
      get_behind_all xs x ys j = get_past xs (x ∷ ys) (length xs + suc j) (omega arith) ∙ ap (slice_get (x ∷ ys)) (let q : length xs + suc j - length xs ≡ suc j = omega arith in q)

  -- areas that the part isn't of stay
  pub stays : (area : Area) → same_area part.area area ≡ false → area_seen n area (before ++ part ∷ behind) ≡ area_seen m area (before ++ part ∷ behind)
  stays area other =
      seen-append n area before (part ∷ behind)
      ∙ (λ i. front_same area i ++ (cond (same_area part.area area) (part_seen n part) [] ++ back_same area i))
      ∙ ap (λ (b : Bool). area_seen m area before ++ (cond b (part_seen n part) [] ++ area_seen m area behind)) other
      ∙ ap (λ (b : Bool). area_seen m area before ++ (cond b (part_seen m part) [] ++ area_seen m area behind)) (sym other)
      ∙ sym (seen-append m area before (part ∷ behind))

  part_put : part_seen n part ≡ set (part_seen m part) page bytes
  part_put = ap (take part.pages) here ∙ take_set (cache_pages m part.cache.0) part.pages page bytes

  -- a page of its own area changes
  pub changes : area_seen n part.area (before ++ part ∷ behind) ≡ set (area_seen m part.area (before ++ part ∷ behind)) (pages_in part.area before + page) bytes
  changes =
      let split = all_parts (λ (p : Part). IsPart m p.area p) before (part ∷ behind) parts_are in
      let rest : List Page = area_seen m part.area behind in
      let long : page < length (part_seen m part) = omega (arith, within, part_length m part split.1.0) in
      seen-append n part.area before (part ∷ behind)
      ∙ (λ i. front_same part.area i ++ (cond (same_area part.area part.area) (part_put i) [] ++ back_same part.area i))
      ∙ ap (λ (b : Bool). area_seen m part.area before ++ (cond b (set (part_seen m part) page bytes) [] ++ rest)) (same_self part.area)
      ∙ ap (λ (xs : List Page). area_seen m part.area before ++ xs) (sym (set_left (part_seen m part) rest page bytes long))
      ∙ sym (set_right (area_seen m part.area before) (part_seen m part ++ rest) (pages_in part.area before) page bytes (seen_length m part.area before split.0))
      ∙ ap (λ (b : Bool). set (area_seen m part.area before ++ (cond b (part_seen m part) [] ++ rest)) (pages_in part.area before + page) bytes) (sym (same_self part.area))
      ∙ ap (λ (xs : List Page). set xs (pages_in part.area before + page) bytes) (sym (seen-append m part.area before (part ∷ behind)))

different : (a b : Area) → a ≢ b → same_area a b ≡ false
different Text Text other = absurd (other refl)
different Text Data other = refl
different Text Stack other = refl
different Data Text other = refl
different Data Data other = absurd (other refl)
different Data Stack other = refl
different Stack Text other = refl
different Stack Data other = refl
different Stack Stack other = absurd (other refl)

-- a process with the pages of one area changed
seen_changed : (m n : Machine) (p : Process) (area : Area) (pages : List Page) → area_seen n area p.parts.items ≡ pages → ((other : Area) → area ≢ other → area_seen n other p.parts.items ≡ area_seen m other p.parts.items) → process_seen n p ≡ with_pages area pages (process_seen m p)
seen_changed m n p Text pages is others = λ i. record { text_pages = is i; data_pages = others Data (λ e. cc) i; stack_pages = others Stack (λ e. cc) i; pieces = sizes_in Data p.parts.items }
seen_changed m n p Data pages is others = λ i. record { text_pages = others Text (λ e. cc) i; data_pages = is i; stack_pages = others Stack (λ e. cc) i; pieces = sizes_in Data p.parts.items }
seen_changed m n p Stack pages is others = λ i. record { text_pages = others Text (λ e. cc) i; data_pages = others Data (λ e. cc) i; stack_pages = is i; pieces = sizes_in Data p.parts.items }

-- a process of which a page of one part changed
pub process_put : (m n : Machine) (p : Process) (before : List Part) (part : Part) (behind : List Part) → p.parts.items ≡ before ++ part ∷ behind → AreParts m p.parts.items → (page : ℕ) (bytes : Page) → page < part.pages
    → cache_pages n part.cache.0 ≡ set (cache_pages m part.cache.0) page bytes
    → ((j : ℕ) (other : Part) → slice_get p.parts.items j ≡ Some other → j ≢ length before → cache_pages n other.cache.0 ≡ cache_pages m other.cache.0)
    → process_seen n p ≡ with_pages part.area (set (area_seen m part.area p.parts.items) (pages_in part.area before + page) bytes) (process_seen m p)
process_put m n p before part behind is all page bytes within here others =
    let all_split : AreParts m (before ++ part ∷ behind) = subst (AreParts m) is all in
    let others_split = λ (j : ℕ) (other : Part) (e : slice_get (before ++ part ∷ behind) j ≡ Some other). others j other (ap (λ (xs : List Part). slice_get xs j) is ∙ e) in
    seen_changed m n p part.area (set (area_seen m part.area p.parts.items) (pages_in part.area before + page) bytes)
    (ap (area_seen n part.area) is ∙ changes m n before part behind all_split page bytes within here others_split ∙ ap (λ (xs : List Part). set (area_seen m part.area xs) (pages_in part.area before + page) bytes) (sym is))
    (λ other differs. ap (area_seen n other) is ∙ stays m n before part behind all_split page bytes within here others_split other (different part.area other differs) ∙ ap (area_seen m other) (sym is))

-- Among all processes

named_apart : (c d : Cache) (seg : ℕ) → c.segment ≡ None → d.segment ≡ Some seg → Some c ≡ Some d → ⊥
named_apart c d seg none some e =
    let same : c ≡ d = cc in
    let f : None ≡ Some seg = sym none ∙ ap (λ (c : Cache). c.segment) same ∙ some in
    absurd (cc f)

module _ (m : Machine) (table : List (Option Process)) (spare : ℕ → Type 0) (images : List Image) (t : AreTied m (numbered table) spare images) (n : ℕ) (p : Process) (live : numbered table n ≡ Some p)
    (before : List Part) (part : Part) (behind : List Part) (is : p.parts.items ≡ before ++ part ∷ behind) (own : IsOwnPart part) (c : Cache) (there : cache_of m part.cache.0 ≡ Some c) (temporary : c.segment ≡ None)
    (page : ℕ) (bytes : Page) (within : page < part.pages) where
  abbrev next : Machine
  next = put_cache m part.cache.0 (put_page page bytes c)

  has : slice_get p.parts.items (length before) ≡ Some part
  has = ap (λ (xs : List Part). slice_get xs (length before)) is ∙ get_middle before part behind

  owner : Owns (numbered table) n (length before) part.cache.0
  owner = record { process = p; part = part; there = live; has = has; own = own; is = refl }

  -- another part has another cache
  other_cache : (k : ℕ) (q : Process) (j : ℕ) (other : Part) → numbered table k ≡ Some q → slice_get q.parts.items j ≡ Some other → ((n ≡ k) → length before ≡ j → ⊥) → other.cache.0 ≢ part.cache.0
  other_cache k q j other alive found differs same = go other.area refl
    where
      is_part : IsPart m other.area other
      is_part = all_at (λ (part : Part). IsPart m part.area part) q.parts.items j other (t.run k q alive).parts found

      owned : may_write other.area ≡ true → ⊥
      owned own_other = let both = t.caches_apart n k (length before) j part.cache.0 owner (record { process = q; part = other; there = alive; has = found; own = own_other; is = same }) in differs both.0 both.1

      go : (a : Area) → other.area ≡ a → ⊥
      go Text e =
          let image : IsImageCache m other = subst (λ (a : Area). IsPart m a other) e is_part in
          named_apart c image.cache image.seg temporary image.named (sym there ∙ ap (cache_of m) (sym same) ∙ image.there)
      go Data e = owned (ap may_write e)
      go Stack e = owned (ap may_write e)

  image_other : (i : ℕ) (image : Image) → slice_get images i ≡ Some image → image.cache.0 ≢ part.cache.0
  image_other i image e same =
      let d = t.images_there i image e in
      named_apart c d.0 image.seg.0 temporary d.2 (sym there ∙ ap (cache_of m) (sym same) ∙ d.1)

  pub images_put : (i : ℕ) (image : Image) → slice_get images i ≡ Some image → cache_pages next image.cache.0 ≡ cache_pages m image.cache.0
  images_put i image e = pages_other m part.cache.0 c there page bytes image.cache.0 (image_other i image e)

  -- the process itself
  here_put : process_seen next p ≡ with_pages part.area (set (area_seen m part.area p.parts.items) (pages_in part.area before + page) bytes) (process_seen m p)
  here_put = process_put m next p before part behind is (t.run n p live).parts page bytes within (pages_put m part.cache.0 c there page bytes)
      (λ j other found differs. pages_other m part.cache.0 c there page bytes other.cache.0 (other_cache n p j other live found (λ q r. differs (sym r))))

  -- and the others
  other_put : (i : ℕ) (o : Option Process) → slice_get table i ≡ Some o → i ≢ n - 1 → option_map (process_seen next) o ≡ option_map (process_seen m) o
  other_put i None found differs = refl
  other_put i (Some q) found differs =
      let alive : numbered table (i + 1) ≡ Some q = number_at table (i + 1) (Some q) (omega arith) (ap (slice_get table) (let e : i + 1 - 1 ≡ i = omega arith in e) ∙ found) in
      ap (λ (x : model.Process). Some x) (process_same m next q (λ j other e. pages_other m part.cache.0 c there page bytes other.cache.0 (other_cache (i + 1) q j other alive e (λ same r. differs (omega (arith, same))))))

  pub processes_put : processes_seen next table images ≡ put_process (processes_seen m table images) n (Some (with_pages part.area (set (area_seen m part.area p.parts.items) (pages_in part.area before + page) bytes) (process_seen m p)))
  processes_put =
      let at = numbered_place table n p live in
      λ i. record {
        page_bytes = m.page_bytes;
        processes = map_but (option_map (process_seen next)) (option_map (process_seen m)) table (n - 1) (Some p) (Some (with_pages part.area (set (area_seen m part.area p.parts.items) (pages_in part.area before + page) bytes) (process_seen m p))) at.1 (ap (λ (x : model.Process). Some x) here_put) other_put i;
        images = map_same (image_seen next) (image_seen m) images (λ k image e. ap (λ (pages : List Page). let x : ℕ × List Page = (image.seg.0, pages) in x) (images_put k image e)) i;
      }
