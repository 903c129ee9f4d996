-- Steps of processes where the mapper doesn't tell what it holds.
use Rattle.std.proofs.Common.{◌≡◌, ℕ, ◌-◌, Bool, true, false, cond, List, [], ◌∷◌, ◌++◌, length, map, take, Option, Some, None, refl, sym, ap, subst, ◌∙◌}
use Rattle.std.specs.Prelude.{All, option_map}
use Rattle.std.specs.Option.{option_map_or}
use Rattle.std.proofs.lemmas.List.{length-map, length-replicate, map-append, map-set, take-map}
use Rattle.std.proofs.lemmas.List.Elements.{All-append, All-map, All-nil, All-take}
use Rattle.vm_ids.specs.declared.command.MixCommand.{MixCommand}
use Rattle.vm_model.proofs.Machines.Sound.{numbered-all}
use Rattle.vm_model.proofs.Parts.Lists.{numbered-map}
use Rattle.interface_callers.proofs.Words.{Answer, BlankOutcome, Cache, Command, HasWholePages, IsWhole, Machine, MapperCounts, Page, PageForest, Segments, UntoldStep, blank, blank_cache, cache_of, numbered, zero_page}
use Rattle.interface_callers.proofs.Blanks.{blank_live, no_segments}
use Rattle.interface_callers.proofs.Lists.{mapped_some, some_then, then_same}
use Rattle.interface_callers.proofs.Answers.{alike_self}
use Rattle.mix_process.specs.Answering.{put_process}
use Rattle.mix_process.specs.Outcome.{Usage, usage_of}
use Rattle.mix_process.specs.ProcessMachine as model
use Rattle.mix_process.specs.ProcessMachine.{ProcessMachine, pages_of, process_of}
use Rattle.mix_process.specs.Seen.{area_seen, cache_pages, image_seen, part_seen, process_seen, processes_seen, same_area, sizes_in}
use Rattle.mix_process.specs.Stepping.{HasAllBytes, State, StepOver, WholeStep, each_in, each_of, each_page, forget, no_bytes}
use Rattle.mix_process.specs.declared.area.Area.{Area}
use Rattle.mix_process.specs.declared.area.Area.TheVariants.{Data, Stack, Text}
use Rattle.mix_process.specs.declared.mix.Image.{Image}
use Rattle.mix_process.specs.declared.process.Part.{Part}
use Rattle.mix_process.specs.declared.process.Process.{Process}
use Rattle.mix_process.proofs.Ties.Alike.{blank_pages}

-- What is seen of them

map_chosen : (f : Page → Page) (b : Bool) (xs : List Page) → map f (cond b xs []) ≡ cond b (map f xs) []
map_chosen f true xs = refl
map_chosen f false xs = refl

area_blank : (m : Machine) (a : Area) (parts : List Part) → area_seen (blank m) a parts ≡ map no_bytes (area_seen m a parts)
area_blank m a [] = refl
area_blank m a (p ∷ ps) =
    (λ i. cond (same_area p.area a) (take p.pages (blank_pages m p.cache.0 i)) [] ++ area_blank m a ps i)
    ∙ sym (map-append no_bytes (cond (same_area p.area a) (part_seen m p) []) (area_seen m a ps)
    ∙ ap (λ (xs : List Page). xs ++ map no_bytes (area_seen m a ps))
    (map_chosen no_bytes (same_area p.area a) (part_seen m p) ∙ ap (λ (xs : List Page). cond (same_area p.area a) xs []) (sym (take-map no_bytes p.pages (cache_pages m p.cache.0)))))

process_blank : (m : Machine) (p : Process) → each_of no_bytes (process_seen m p) ≡ process_seen (blank m) p
process_blank m p = λ i. record {
  text_pages = sym (area_blank m Text p.parts.items) i;
  data_pages = sym (area_blank m Data p.parts.items) i;
  stack_pages = sym (area_blank m Stack p.parts.items) i;
  pieces = sizes_in Data p.parts.items;
}

pub seen_blank : (m : Machine) (table : List (Option Process)) (images : List Image) → processes_seen (blank m) table images ≡ each_page no_bytes (processes_seen m table images)
seen_blank m table images = λ i. record {
  page_bytes = m.page_bytes;
  processes = sym (then_same (option_map (each_of no_bytes)) (option_map (process_seen m)) (option_map (process_seen (blank m))) (some_then (each_of no_bytes) (process_seen m) (process_seen (blank m)) (process_blank m)) table) i;
  images = sym (then_same (each_in no_bytes) (image_seen m) (image_seen (blank m)) (λ image j. (image.seg.0, sym (blank_pages m image.cache.0) j)) images) i;
}

pub usage_blank : (m : Machine) → usage_of (blank m) ≡ usage_of m
usage_blank m = λ i. record (usage_of m) { caches = length-map m.caches (option_map blank_cache) i; pages = blank_live m i }

-- where each page of a machine has all its bytes, each page that is seen of it has them

module _ (m : Machine) (whole : HasWholePages m) where
  abbrev IsLong : Page → Type 0
  IsLong page = length page ≡ m.page_bytes

  cache_long : (k : ℕ) → All IsLong (cache_pages m k)
  cache_long k = by (cache_of m k) refl
    where
      by : (o : Option Cache) → cache_of m k ≡ o → All IsLong (option_map_or (λ (c : Cache). c.pages) o [])
      by None e = All-nil IsLong
      by (Some c) e = numbered-all (IsWhole m.page_bytes) m.caches k c e whole

  area_long : (a : Area) (parts : List Part) → All IsLong (area_seen m a parts)
  area_long a [] = All-nil IsLong
  area_long a (p ∷ ps) = All-append IsLong (cond (same_area p.area a) (part_seen m p) []) (area_seen m a ps) (by (same_area p.area a)) (area_long a ps)
    where
      by : (b : Bool) → All IsLong (cond b (part_seen m p) [])
      by true = All-take IsLong p.pages (cache_pages m p.cache.0) (cache_long p.cache.0)
      by false = All-nil IsLong

  seen_long : (q : Process) (area : Area) → All IsLong (pages_of (process_seen m q) area)
  seen_long q Text = area_long Text q.parts.items
  seen_long q Data = area_long Data q.parts.items
  seen_long q Stack = area_long Stack q.parts.items

  whole_seen : (table : List (Option Process)) (images : List Image) → HasAllBytes (processes_seen m table images)
  whole_seen table images n p e area =
      let at = mapped_some (process_seen m) (numbered table n) p (sym (numbered-map (process_seen m) table n) ∙ e) in
      subst (λ (x : model.Process). All IsLong (pages_of x area)) at.2 (seen_long at.0 area)

-- the state over a machine
abbrev pub over : Option Segments → Machine → List (Option Process) → List Image → State
over told m table images = record { processes = processes_seen m table images; usage = usage_of m; segments = told }

over_blank : (told : Option Segments) (m w : Machine) (table : List (Option Process)) (images : List Image) → m ≡ blank w → over told m table images ≡ forget (over told w table images)
over_blank told m w table images is =
    ap (λ (x : Machine). over told x table images) is
    ∙ (λ i. record { processes = seen_blank w table images i; usage = usage_blank w i; segments = told })

-- a call of the manager that is the whole step
pub step_blank : (told now : Option Segments) (m n : Machine) (f : Option PageForest) (c : Command) (a : Answer) (rises : MapperCounts) (command : MixCommand) (table : List (Option Process)) (images : List Image) (o : BlankOutcome m f c a n rises)
    → StepOver o.segments (over told o.whole table images) command o.whole_answer rises (over now o.whole_next table images)
    → UntoldStep forget (λ h whole x next. WholeStep h whole command x rises next) (over told m table images) a (over now n table images)
step_blank told now m n f c a rises command table images o leads = record {
  whole = over told o.whole table images;
  whole_next = over now o.whole_next table images;
  segments = o.segments;
  whole_answer = o.whole_answer;
  is = over_blank told m o.whole table images o.is;
  is_next = over_blank now n o.whole_next table images o.is_next;
  alike = o.alike;
  leads = record { bytes = whole_seen o.whole o.pages table images; step = leads };
}

-- Zeros in place of the missing bytes

abbrev pub zeros : Page → Page
zeros page = zero_page 4096

abbrev pub filled_up : ProcessMachine → ProcessMachine
filled_up s = each_page zeros s

twice_of : (p : model.Process) → each_of no_bytes (each_of zeros p) ≡ each_of no_bytes p
twice_of p = λ i. record p {
  text_pages = then_same no_bytes zeros no_bytes (λ x. refl) p.text_pages i;
  data_pages = then_same no_bytes zeros no_bytes (λ x. refl) p.data_pages i;
  stack_pages = then_same no_bytes zeros no_bytes (λ x. refl) p.stack_pages i;
}

forget_filled : (s : ProcessMachine) → each_page no_bytes (filled_up s) ≡ each_page no_bytes s
forget_filled s = λ i. record s {
  processes = then_same (option_map (each_of no_bytes)) (option_map (each_of zeros)) (option_map (each_of no_bytes)) (some_then (each_of no_bytes) (each_of zeros) (each_of no_bytes) twice_of) s.processes i;
  images = then_same (each_in no_bytes) (each_in zeros) (each_in no_bytes) (λ image j. (image.0, then_same no_bytes zeros no_bytes (λ x. refl) image.1 j)) s.images i;
}

-- where a machine has no bytes, what is seen is what is left of that with zeros
pub seen_filled : (m : Machine) (table : List (Option Process)) (images : List Image) → m ≡ blank m → processes_seen m table images ≡ each_page no_bytes (filled_up (processes_seen m table images))
seen_filled m table images is = ap (λ (x : Machine). processes_seen x table images) is ∙ seen_blank m table images ∙ sym (forget_filled (processes_seen m table images))

zeros_long : (n : ℕ) → 4096 ≡ n → (pages : List Page) → All (λ (page : Page). length page ≡ n) (map zeros pages)
zeros_long n is pages = All-map (λ (page : Page). length page ≡ n) zeros pages (λ k d less. length-replicate {A = ℕ} 4096 0 ∙ is)

filled_long : (n : ℕ) → 4096 ≡ n → (q : model.Process) (area : Area) → All (λ (page : Page). length page ≡ n) (pages_of (each_of zeros q) area)
filled_long n is q Text = zeros_long n is q.text_pages
filled_long n is q Data = zeros_long n is q.data_pages
filled_long n is q Stack = zeros_long n is q.stack_pages

whole_filled : (s : ProcessMachine) → s.page_bytes ≡ 4096 → HasAllBytes (filled_up s)
whole_filled s page n p e area =
    let at = mapped_some (each_of zeros) (process_of s n) p (sym (numbered-map (each_of zeros) s.processes n) ∙ e) in
    subst (λ (x : model.Process). All (λ (page : Page). length page ≡ s.page_bytes) (pages_of x area)) at.2 (filled_long s.page_bytes (sym page) at.0 area)

-- a step of states filled with zeros, for these segments
pub step_with : (h : Segments) (told now : Option Segments) (s next : ProcessMachine) (u v : Usage) (command : MixCommand) (a : Answer) (rises : MapperCounts) → s.page_bytes ≡ 4096 → s ≡ each_page no_bytes (filled_up s) → next ≡ each_page no_bytes (filled_up next)
    → StepOver h (record { processes = filled_up s; usage = u; segments = told }) command a rises (record { processes = filled_up next; usage = v; segments = now })
    → UntoldStep forget (λ h whole x after. WholeStep h whole command x rises after) (record { processes = s; usage = u; segments = told }) a (record { processes = next; usage = v; segments = now })
step_with h told now s next u v command a rises page is is_next leads = record {
  whole = record { processes = filled_up s; usage = u; segments = told };
  whole_next = record { processes = filled_up next; usage = v; segments = now };
  segments = h;
  whole_answer = a;
  is = λ i. record { processes = is i; usage = u; segments = told };
  is_next = λ i. record { processes = is_next i; usage = v; segments = now };
  alike = alike_self a;
  leads = record { bytes = whole_filled s page; step = leads };
}

-- and whatever segments there are
pub step_filled : (told now : Option Segments) (s next : ProcessMachine) (u v : Usage) (command : MixCommand) (a : Answer) (rises : MapperCounts) → s.page_bytes ≡ 4096 → s ≡ each_page no_bytes (filled_up s) → next ≡ each_page no_bytes (filled_up next)
    → ((h : Segments) → StepOver h (record { processes = filled_up s; usage = u; segments = told }) command a rises (record { processes = filled_up next; usage = v; segments = now }))
    → UntoldStep forget (λ h whole x after. WholeStep h whole command x rises after) (record { processes = s; usage = u; segments = told }) a (record { processes = next; usage = v; segments = now })
step_filled told now s next u v command a rises page is is_next leads = step_with no_segments told now s next u v command a rises page is is_next (leads no_segments)

-- a process is put, filled with zeros
pub filled_put : (s : ProcessMachine) (n : ℕ) (o : Option model.Process) → filled_up (put_process s n o) ≡ put_process (filled_up s) n (option_map (each_of zeros) o)
filled_put s n o = λ i. record (filled_up s) { processes = map-set (option_map (each_of zeros)) s.processes (n - 1) o i }

-- As far as the refusals go that are found at first, one machine of processes is like another.
pub record AreLike (s x : ProcessMachine) : Type 0 where
  pub nobody : (n : ℕ) → process_of s n ≡ None → process_of x n ≡ None
  pub somebody : (n : ℕ) (p : model.Process) → process_of s n ≡ Some p → (q : model.Process) × (process_of x n ≡ Some q) × (length q.data_pages ≡ length p.data_pages)

pub like_self : (s : ProcessMachine) → AreLike s s
like_self s = record { nobody = λ n e. e; somebody = λ n p e. (p, e, refl) }

pub like_filled : (s : ProcessMachine) → AreLike s (filled_up s)
like_filled s = record {
  nobody = λ n e. numbered-map (each_of zeros) s.processes n ∙ ap (option_map (each_of zeros)) e;
  somebody = λ n p e. (each_of zeros p, numbered-map (each_of zeros) s.processes n ∙ ap (option_map (each_of zeros)) e, length-map p.data_pages zeros);
}
