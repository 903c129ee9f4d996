-- What is seen of a process that has one part more, and of processes whose caches are kept.
use Rattle.std.proofs.Common.{◌≡◌, ℕ, zero, suc, ◌+◌, ◌-◌, Bool, true, false, cond, List, [], ◌∷◌, ◌++◌, length, map, Option, Some, None, refl, sym, ap, ◌∙◌, append_assoc, arith}
use Rattle.std.specs.Prelude.{option_map, slice_get}
use Rattle.std.proofs.lemmas.List.{append-nil, map-set}
use Rattle.interface_callers.proofs.Words.{Cache, Machine, Page, cache_of, numbered}
use Rattle.interface_callers.proofs.Lists.{all_at, map_same, number_at, put_back}
use Rattle.mix_process.specs.Adding.{IsPutAt, put_at, with_more}
use Rattle.mix_process.specs.ProcessMachine as model
use Rattle.mix_process.specs.ProcessMachine.{ProcessMachine}
use Rattle.mix_process.specs.Seen.{area_seen, cache_pages, image_seen, part_seen, process_seen, processes_seen, same_area, sizes_in}
use Rattle.mix_process.specs.Tying.{AreTied, IsPart}
use Rattle.mix_process.specs.declared.area.Area.{Area}
use Rattle.mix_process.specs.declared.area.Area.TheVariants.{Data, Stack, Text}
use Rattle.mix_process.specs.declared.mix.Image.{Image}
use Rattle.mix_process.specs.declared.mix.Mix.{Mix}
use Rattle.mix_process.specs.declared.process.Part.{Part}
use Rattle.mix_process.specs.declared.process.Process.{Process}
use Rattle.mix_process.proofs.Ties.Clearing.{part_kept, image_kept}
use Rattle.mix_process.proofs.Reading.PagePut.{process_same}
use Rattle.mix_process.proofs.Reading.Seeing.{seen-append}
use Rattle.mix_process.proofs.Ties.NewCache.{part_cache}

-- One part more

seen_snoc : (m : Machine) (a : Area) (xs : List Part) (part : Part) (b : Bool) → same_area part.area a ≡ b → area_seen m a (xs ++ part ∷ []) ≡ area_seen m a xs ++ cond b (part_seen m part) []
seen_snoc m a xs part b e =
    seen-append m a xs (part ∷ [])
    ∙ ap (λ (c : Bool). area_seen m a xs ++ (cond c (part_seen m part) [] ++ [])) e
    ∙ ap (λ (pages : List Page). area_seen m a xs ++ pages) (append-nil (cond b (part_seen m part) []))

sizes-append : (a : Area) (xs ys : List Part) → sizes_in a (xs ++ ys) ≡ sizes_in a xs ++ sizes_in a ys
sizes-append a [] ys = refl
sizes-append a (x ∷ xs) ys = ap (λ (ns : List ℕ). cond (same_area x.area a) (x.pages ∷ []) [] ++ ns) (sizes-append a xs ys) ∙ sym (append_assoc (cond (same_area x.area a) (x.pages ∷ []) []) (sizes_in a xs) (sizes_in a ys))

sizes_snoc : (a : Area) (xs : List Part) (part : Part) (b : Bool) → same_area part.area a ≡ b → sizes_in a (xs ++ part ∷ []) ≡ sizes_in a xs ++ cond b (part.pages ∷ []) []
sizes_snoc a xs part b e =
    sizes-append a xs (part ∷ [])
    ∙ ap (λ (c : Bool). sizes_in a xs ++ (cond c (part.pages ∷ []) [] ++ [])) e
    ∙ ap (λ (ns : List ℕ). sizes_in a xs ++ ns) (append-nil (cond b (part.pages ∷ []) []))

-- what these parts show
abbrev pub parts_seen : Machine → List Part → model.Process
parts_seen m parts = record {
  text_pages = area_seen m Text parts;
  data_pages = area_seen m Data parts;
  stack_pages = area_seen m Stack parts;
  pieces = sizes_in Data parts;
}

module _ (m : Machine) (xs : List Part) (part : Part) (long : length (part_seen m part) ≡ part.pages) where
  more : (a : Area) → same_area part.area a ≡ true → area_seen m a (xs ++ part ∷ []) ≡ area_seen m a xs ++ part_seen m part
  more a e = seen_snoc m a xs part true e

  same : (a : Area) → same_area part.area a ≡ false → area_seen m a (xs ++ part ∷ []) ≡ area_seen m a xs
  same a e = seen_snoc m a xs part false e ∙ append-nil (area_seen m a xs)

  one_piece : same_area part.area Data ≡ true → sizes_in Data (xs ++ part ∷ []) ≡ sizes_in Data xs ++ length (part_seen m part) ∷ []
  one_piece e = sizes_snoc Data xs part true e ∙ ap (λ (n : ℕ). sizes_in Data xs ++ n ∷ []) (sym long)

  no_piece : same_area part.area Data ≡ false → sizes_in Data (xs ++ part ∷ []) ≡ sizes_in Data xs
  no_piece e = sizes_snoc Data xs part false e ∙ append-nil (sizes_in Data xs)

  seen_by : (area : Area) → part.area ≡ area → parts_seen m (xs ++ part ∷ []) ≡ with_more area (part_seen m part) (parts_seen m xs)
  seen_by Text e = λ i. record {
    text_pages = more Text (ap (λ (a : Area). same_area a Text) e) i;
    data_pages = same Data (ap (λ (a : Area). same_area a Data) e) i;
    stack_pages = same Stack (ap (λ (a : Area). same_area a Stack) e) i;
    pieces = no_piece (ap (λ (a : Area). same_area a Data) e) i;
  }
  seen_by Data e = λ i. record {
    text_pages = same Text (ap (λ (a : Area). same_area a Text) e) i;
    data_pages = more Data (ap (λ (a : Area). same_area a Data) e) i;
    stack_pages = same Stack (ap (λ (a : Area). same_area a Stack) e) i;
    pieces = one_piece (ap (λ (a : Area). same_area a Data) e) i;
  }
  seen_by Stack e = λ i. record {
    text_pages = same Text (ap (λ (a : Area). same_area a Text) e) i;
    data_pages = same Data (ap (λ (a : Area). same_area a Data) e) i;
    stack_pages = more Stack (ap (λ (a : Area). same_area a Stack) e) i;
    pieces = no_piece (ap (λ (a : Area). same_area a Data) e) i;
  }

  pub one_more_seen : parts_seen m (xs ++ part ∷ []) ≡ with_more part.area (part_seen m part) (parts_seen m xs)
  one_more_seen = seen_by part.area refl

-- a process with one part more
pub seen_with : (m : Machine) (p q : Process) (part : Part) → length (part_seen m part) ≡ part.pages → q.parts.items ≡ p.parts.items ++ part ∷ [] → process_seen m q ≡ with_more part.area (part_seen m part) (process_seen m p)
seen_with m p q part long is = ap (λ (parts : List Part). parts_seen m parts) is ∙ one_more_seen m p.parts.items part long

-- a process with the same parts
pub seen_alike : (m : Machine) (p q : Process) → q.parts.items ≡ p.parts.items ++ [] → process_seen m q ≡ process_seen m p
seen_alike m p q is = ap (λ (parts : List Part). parts_seen m parts) (is ∙ append-nil p.parts.items)

-- In the table

pub map_place : {A B : Type 0} (f : A → B) (xs : List A) (i : ℕ) (x : A) → slice_get xs i ≡ Some x → slice_get (map f xs) i ≡ Some (f x)
map_place f [] i x e = absurd (cc e)
map_place f (y ∷ xs) zero x e = let same : y ≡ x = cc in ap (λ z. Some (f z)) same
map_place f (y ∷ xs) (suc i) x e = map_place f xs i x e

module _ {Manager : Type 0} (m : Machine) (old : Mix Manager) (place : ℕ) (p : Process) (there : slice_get old.processes.items place ≡ Some (Some p)) (parts : List Part) (new : Mix Manager) (put : IsPutAt old place p parts new) where
  pub seen_put : processes_seen m new.processes.items new.images.items ≡ put_at (processes_seen m old.processes.items old.images.items) place (process_seen m put.now)
  seen_put = (λ i. processes_seen m (put.processes i) (put.images i).items)
      ∙ (λ i. record { page_bytes = m.page_bytes; processes = map-set (option_map (process_seen m)) old.processes.items place (Some put.now) i; images = map (image_seen m) old.images.items })

  -- where the process is seen as before, all are
  pub seen_still : process_seen m put.now ≡ process_seen m p → processes_seen m new.processes.items new.images.items ≡ processes_seen m old.processes.items old.images.items
  seen_still same = seen_put
      ∙ ap (λ (x : model.Process). put_at (processes_seen m old.processes.items old.images.items) place x) same
      ∙ (λ i. record { page_bytes = m.page_bytes; processes = put_back (map (option_map (process_seen m)) old.processes.items) place (Some (process_seen m p)) (map_place (option_map (process_seen m)) old.processes.items place (Some p) there) i; images = map (image_seen m) old.images.items })

-- Caches that are kept

module _ (m n : Machine) (table : List (Option Process)) (spare : ℕ → Type 0) (images : List Image) (t : AreTied m (numbered table) spare images) (page : n.page_bytes ≡ m.page_bytes)
    (kept : (k : ℕ) (c : Cache) → (spare k → ⊥) → cache_of m k ≡ Some c → cache_pages n k ≡ cache_pages m k) where
  pub images_kept : (i : ℕ) (image : Image) → slice_get images i ≡ Some image → cache_pages n image.cache.0 ≡ cache_pages m image.cache.0
  images_kept i image e = let d = t.images_there i image e in kept image.cache.0 d.0 (λ s. image_kept m (numbered table) spare images t i image image.cache.0 e s refl) d.1

  one_seen : (i : ℕ) (o : Option Process) → slice_get table i ≡ Some o → option_map (process_seen n) o ≡ option_map (process_seen m) o
  one_seen i None e = refl
  one_seen i (Some p) e =
      let alive : numbered table (i + 1) ≡ Some p = number_at table (i + 1) (Some p) (omega arith) (ap (slice_get table) (let g : i + 1 - 1 ≡ i = omega arith in g) ∙ e) in
      ap (λ (x : model.Process). Some x) (process_same m n p (λ j part f.
      let c = part_cache m part.area part (all_at (λ (part : Part). IsPart m part.area part) p.parts.items j part (t.run (i + 1) p alive).parts f) in
      kept part.cache.0 c.0 (λ s. part_kept m (numbered table) spare images t (i + 1) p j part part.cache.0 alive f s refl) c.1))

  pub all_seen : processes_seen n table images ≡ processes_seen m table images
  all_seen = λ i. record {
    page_bytes = page i;
    processes = map_same (option_map (process_seen n)) (option_map (process_seen m)) table one_seen i;
    images = map_same (image_seen n) (image_seen m) images (λ k image e. ap (λ (pages : List Page). let x : ℕ × List Page = (image.seg.0, pages) in x) (images_kept k image e)) i;
  }

-- and so is each of the processes
pub one_same : (m n : Machine) (table : List (Option Process)) (images : List Image) (place : ℕ) (p : Process) → slice_get table place ≡ Some (Some p) → processes_seen n table images ≡ processes_seen m table images → process_seen n p ≡ process_seen m p
one_same m n table images place p there same =
    let both : Some (Some (process_seen n p)) ≡ Some (Some (process_seen m p)) =
    sym (map_place (option_map (process_seen n)) table place (Some p) there)
    ∙ ap (λ (s : ProcessMachine). slice_get s.processes place) same
    ∙ map_place (option_map (process_seen m)) table place (Some p) there in
    cc both
