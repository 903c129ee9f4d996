-- How many parts and pages a process has, and what its copy uses and costs.
use Rattle.std.proofs.Common.{◌≡◌, ◌≢◌, ℕ, suc, ◌+◌, ◌*◌, ◌≤◌, ◌<◌, Bool, true, false, cond, List, [], ◌∷◌, ◌++◌, length, Some, refl, sym, ap, ◌∙◌, arith}
use Rattle.std.specs.Prelude.{slice_get}
use Rattle.std.proofs.lemmas.Option.{slice_get_within}
use Rattle.interface_callers.proofs.Words.{LIVE_PAGES, Machine}
use Rattle.interface_callers.proofs.Lists.{all_at}
use Rattle.mix_process.specs.Adding.{usage_to_map}
use Rattle.mix_process.specs.Copying.{copy_budget, cost_to_copy, usage_of_parts}
use Rattle.mix_process.specs.Outcome.{Usage, usage_to_fork, usage_to_grow}
use Rattle.mix_process.specs.ProcessMachine.{may_write}
use Rattle.mix_process.specs.Seen.{pages_in, process_seen, same_area, sizes_in}
use Rattle.mix_process.specs.Tying.{IsPart, IsRun}
use Rattle.mix_process.specs.Use.{IsWithin, usage_sum}
use Rattle.mix_process.specs.declared.area.Area.{Area}
use Rattle.mix_process.specs.declared.area.Area.TheVariants.{Data, Stack, Text}
use Rattle.mix_process.specs.declared.process.Part.{Part}
use Rattle.mix_process.specs.declared.process.Process.{Process}
use Rattle.mix_process.proofs.Reading.Looking.{area_same}
use Rattle.mix_process.proofs.Reading.Seeing.{seen_length}

abbrev pub cost_of_parts : List Part → ℕ
cost_of_parts [] = 0
cost_of_parts (p ∷ ps) = cost_to_copy p + cost_of_parts ps

-- Parts of an area

abbrev parts_in : Area → List Part → ℕ
parts_in area [] = 0
parts_in area (p ∷ ps) = cond (same_area p.area area) 1 0 + parts_in area ps

many_sizes : (area : Area) (xs : List Part) → length (sizes_in area xs) ≡ parts_in area xs
many_sizes area [] = refl
many_sizes area (x ∷ xs) = by (same_area x.area area) (many_sizes area xs)
  where
    by : (b : Bool) → length (sizes_in area xs) ≡ parts_in area xs → length (cond b (x.pages ∷ []) [] ++ sizes_in area xs) ≡ cond b 1 0 + parts_in area xs
    by true rest = omega (arith, rest)
    by false rest = omega (arith, rest)

none_later : (area : Area) (xs : List Part) → ((mid behind : List Part) (part : Part) → xs ≡ mid ++ part ∷ behind → part.area ≡ area → ⊥) → parts_in area xs ≡ 0
none_later area [] h = refl
none_later area (x ∷ xs) h = by (same_area x.area area) refl (none_later area xs (λ mid behind part e is. h (x ∷ mid) behind part (λ i. x ∷ e i) is))
  where
    by : (b : Bool) → same_area x.area area ≡ b → parts_in area xs ≡ 0 → cond b 1 0 + parts_in area xs ≡ 0
    by true e rest = absurd (h [] xs x refl (area_same x.area area e))
    by false e rest = omega (arith, rest)

abbrev HaveSome : List Part → Type 0
HaveSome xs = (i : ℕ) (x : Part) → slice_get xs i ≡ Some x → 1 ≤ x.pages

-- where the first pages of an area are those of each of its parts, it has one
at_most_one : (area : Area) (xs : List Part) → HaveSome xs → ((mid behind : List Part) (part : Part) → xs ≡ mid ++ part ∷ behind → part.area ≡ area → pages_in area mid ≡ 0) → parts_in area xs ≤ 1
at_most_one area [] each h = omega arith
at_most_one area (x ∷ xs) each h = by (same_area x.area area) refl (λ smaller. at_most_one area xs (λ i y e. each (suc i) y e) smaller)
  where
    front : (b : Bool) → same_area x.area area ≡ b → (mid behind : List Part) (part : Part) → xs ≡ mid ++ part ∷ behind → part.area ≡ area → cond b x.pages 0 + pages_in area mid ≡ 0
    front b e mid behind part f is = ap (λ (c : Bool). cond c x.pages 0 + pages_in area mid) (sym e) ∙ h (x ∷ mid) behind part (λ i. x ∷ f i) is

    by : (b : Bool) → same_area x.area area ≡ b → (((mid behind : List Part) (part : Part) → xs ≡ mid ++ part ∷ behind → part.area ≡ area → pages_in area mid ≡ 0) → parts_in area xs ≤ 1) → cond b 1 0 + parts_in area xs ≤ 1
    by true e rest =
        let some : 1 ≤ x.pages = each 0 x refl in
        let none : parts_in area xs ≡ 0 = none_later area xs (λ mid behind part f is. omega (arith, front true e mid behind part f is, some)) in
        omega (arith, none)
    by false e rest =
        let less : parts_in area xs ≤ 1 = rest (λ mid behind part f is. omega (arith, front false e mid behind part f is)) in
        omega (arith, less)

some_pages : (m : Machine) (area : Area) (part : Part) → IsPart m area part → 1 ≤ part.pages
some_pages m Text part h = h.some
some_pages m Data part h = h.some
some_pages m Stack part h = h.some

-- All parts

length_one : (a : Area) (n : ℕ) → 1 ≤ n → 1 ≤ cond (same_area a Text) n 0 + cond (same_area a Data) n 0 + cond (same_area a Stack) n 0
length_one Text n some = omega (arith, some)
length_one Data n some = omega (arith, some)
length_one Stack n some = omega (arith, some)

fewer_parts : (xs : List Part) → HaveSome xs → length xs ≤ pages_in Text xs + pages_in Data xs + pages_in Stack xs
fewer_parts [] each = omega arith
fewer_parts (x ∷ xs) each = let rest = fewer_parts xs (λ i y e. each (suc i) y e) in omega (arith, rest, length_one x.area x.pages (each 0 x refl))

cost_one : (a : Area) (n : ℕ) → cond (may_write a) (88 * n) (8 * (n + LIVE_PAGES) + 8)
    ≤ 88 * (cond (same_area a Data) n 0 + cond (same_area a Stack) n 0) + (8 * cond (same_area a Text) n 0 + (8 * LIVE_PAGES + 8) * cond (same_area a Text) 1 0)
cost_one Text n = omega arith
cost_one Data n = omega arith
cost_one Stack n = omega arith

cost_all : (xs : List Part) → cost_of_parts xs ≤ 88 * (pages_in Data xs + pages_in Stack xs) + (8 * pages_in Text xs + (8 * LIVE_PAGES + 8) * parts_in Text xs)
cost_all [] = omega arith
cost_all (x ∷ xs) = omega (arith, cost_one x.area x.pages, cost_all xs)

-- as much as these parts use
abbrev in_parts : List Part → Usage
in_parts xs = record {
  living = 0;
  actors = 0;
  caches = parts_in Data xs + parts_in Stack xs;
  regions = parts_in Text xs + parts_in Data xs + parts_in Stack xs;
  pages = pages_in Data xs + pages_in Stack xs;
}

abbrev in_area : Area → ℕ → Usage
in_area a n = record {
  living = 0;
  actors = 0;
  caches = cond (same_area a Data) 1 0 + cond (same_area a Stack) 1 0;
  regions = cond (same_area a Text) 1 0 + cond (same_area a Data) 1 0 + cond (same_area a Stack) 1 0;
  pages = cond (same_area a Data) n 0 + cond (same_area a Stack) n 0;
}

usage_one : (a : Area) (n : ℕ) → IsWithin (cond (may_write a) (usage_to_grow n) usage_to_map) (in_area a n)
usage_one Text n = record { living = omega arith; actors = omega arith; caches = omega arith; regions = omega arith; pages = omega arith }
usage_one Data n = record { living = omega arith; actors = omega arith; caches = omega arith; regions = omega arith; pages = omega arith }
usage_one Stack n = record { living = omega arith; actors = omega arith; caches = omega arith; regions = omega arith; pages = omega arith }

usage_all : (xs : List Part) → IsWithin (usage_of_parts xs) (in_parts xs)
usage_all [] = record { living = omega arith; actors = omega arith; caches = omega arith; regions = omega arith; pages = omega arith }
usage_all (x ∷ xs) = let f = usage_one x.area x.pages in let r = usage_all xs in record {
  living = omega (arith, f.living, r.living);
  actors = omega (arith, f.actors, r.actors);
  caches = omega (arith, f.caches, r.caches);
  regions = omega (arith, f.regions, r.regions);
  pages = omega (arith, f.pages, r.pages);
}

module _ (m : Machine) (p : Process) (run : IsRun m p) where
  pub have_some : (i : ℕ) (x : Part) → slice_get p.parts.items i ≡ Some x → 1 ≤ x.pages
  have_some i x e = some_pages m x.area x (all_at (λ (x : Part). IsPart m x.area x) p.parts.items i x run.parts e)

  one_of : (area : Area) → area ≢ Data → parts_in area p.parts.items ≤ 1
  one_of area other = at_most_one area p.parts.items have_some (λ mid behind part e is. sym (ap (λ (a : Area). pages_in a mid) is) ∙ run.single mid behind part e (λ q. other (sym is ∙ q)))

  one_text : parts_in Text p.parts.items ≤ 1
  one_text = one_of Text (λ e. absurd (cc e))

  one_stack : parts_in Stack p.parts.items ≤ 1
  one_stack = one_of Stack (λ e. absurd (cc e))

  pub cheap : cost_of_parts p.parts.items ≤ copy_budget
  cheap = omega (arith, cost_all p.parts.items, one_text, run.small.text, run.small.data_pages, run.small.stack)

  pub few_parts : (n : ℕ) (part : Part) → slice_get p.parts.items n ≡ Some part → n + 1 ≤ 67584
  few_parts n part e = let less : n < length p.parts.items = slice_get_within p.parts.items n part e in
      omega (arith, less, fewer_parts p.parts.items have_some, run.small.text, run.small.data_pages, run.small.stack)

  -- a fork uses no more than is told of it
  pub used_to_fork : IsWithin (usage_sum (record { living = 1; actors = 1; caches = 0; regions = 0; pages = 0 }) (usage_of_parts p.parts.items)) (usage_to_fork (process_seen m p))
  used_to_fork = let u = usage_all p.parts.items in record {
    living = omega (arith, u.living);
    actors = omega (arith, u.actors);
    caches = omega (arith, u.caches, one_stack, many_sizes Data p.parts.items);
    regions = omega (arith, u.regions, one_stack, one_text, many_sizes Data p.parts.items);
    pages = omega (arith, u.pages, seen_length m Data p.parts.items run.parts, seen_length m Stack p.parts.items run.parts);
  }
