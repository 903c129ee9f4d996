-- What the inner call says that gives a process what an image has.
use Rattle.std.specs.Prelude.{◌≡◌, ◌≤◌, ℕ, ◌+◌, ◌^◌, List, [], ◌∷◌, ◌++◌, length, take, drop, replicate, Option, Some, Result, Ok, Err}
use Rattle.vm_ids.specs.Counting.{MapperCounts, Rise}
use Rattle.vm_ids.specs.Held.{Segments, segments_of}
use Rattle.vm_ids.specs.declared.reply.Trouble.{Trouble}
use Rattle.vm_model.specs.Machine.{Machine}
use Rattle.vm_port.specs.declared.traits.mapper.Mapper.{Ghosts as GhostsOfMapper}
use Rattle.gmi_calls.specs.declared.gmi.Gmi.{Ghosts as GhostsOfGmi}
use Rattle.mix_process.specs.Adding.{AreKept, fresh_page, put_at}
use Rattle.mix_process.specs.Outcome.{Usage, usage_of}
use Rattle.mix_process.specs.ProcessMachine as model
use Rattle.mix_process.specs.Seen.{cache_pages, processes_seen}
use Rattle.mix_process.specs.Tying.{CanCall, IsImageCache}
use Rattle.mix_process.specs.Use.{IsLack, IsWithin, usage_sum}
use Rattle.mix_process.specs.declared.area.Area.TheVariants.{Text}
use Rattle.mix_process.specs.declared.area.TheConstants.{MOST_DATA, MOST_STACK, MOST_TEXT}
use Rattle.mix_process.specs.declared.mix.Mix.{Mix}
use Rattle.mix_process.specs.declared.process.Part.{Part}
use Rattle.mix_process.specs.declared.process.Process.{Process}

-- A process without parts stands last, and an image has the pages of text and data that it gets.
pub record MayLoad (m : Machine) (processes : List (Option Process)) (text : Part)
    (data_pages stack_pages : ℕ) : Type 0 where
  pub front : List (Option Process)
  pub child : Process
  pub is : processes ≡ front ++ Some child ∷ []
  pub bare : child.parts.items ≡ []
  pub area : text.area ≡ Text
  pub image : IsImageCache m text
  pub enough : text.pages + data_pages ≤ length (cache_pages m text.cache.0)
  pub few_text : text.pages ≤ MOST_TEXT
  pub some_data : 1 ≤ data_pages
  pub few_data : data_pages ≤ MOST_DATA
  pub some_stack : 1 ≤ stack_pages
  pub few_stack : stack_pages ≤ MOST_STACK

-- the process that is made of an image
abbrev pub loaded : Option Segments → Machine → Part → ℕ → ℕ → model.Process
loaded told m text data_pages stack_pages = record {
  text_pages = take text.pages (cache_pages m text.cache.0);
  data_pages = take data_pages (drop text.pages (cache_pages m text.cache.0));
  stack_pages = replicate stack_pages (fresh_page told m.page_bytes);
  pieces = data_pages ∷ [];
}

-- three regions, two caches, and the pages of these
abbrev pub usage_to_load : ℕ → ℕ → Usage
usage_to_load data_pages stack_pages = record {
  living = 0;
  actors = 0;
  caches = 2;
  regions = 3;
  pages = data_pages + stack_pages;
}

-- how far that may raise the number that bounds the manager's counters
abbrev pub load_budget : ℕ
load_budget = 2 ^ 27

-- The last process has what the image has; or the manager lacks something.
abbrev pub Loads : Option Segments → Machine → model.ProcessMachine → model.ProcessMachine → ℕ
    → Part → ℕ → ℕ → Result (Unit {0}) Trouble → Type 0
Loads told m before after last text data_pages stack_pages (Ok u) =
    after ≡ put_at before last (loaded told m text data_pages stack_pages)
Loads told m before after last text data_pages stack_pages (Err trouble) =
    IsLack (usage_of m) (usage_to_load data_pages stack_pages) trouble

-- The last process was made of an image, or there was a lack.
pub record IsLoaded {Manager Mapper Chooser : Type 0} (M : GhostsOfMapper Mapper)
    (G : GhostsOfGmi Manager Mapper Chooser) (before : Mapper) (old : Mix Manager)
    (front : List (Option Process)) (text : Part) (data_pages stack_pages : ℕ)
    (result : Result (Unit {0}) Trouble) (after : Mapper) (new : Mix Manager) : Type 0 where
  pub can : CanCall G new (M.held after) (M.page_bytes after)
  pub child : Process
  pub table : new.processes.items ≡ front ++ Some child ∷ []
  pub images : new.images ≡ old.images
  pub loads : Loads (segments_of (M.held before)) (G.machine old.gmi (M.held before))
      (processes_seen (G.machine old.gmi (M.held before)) old.processes.items old.images.items)
      (processes_seen (G.machine new.gmi (M.held after)) new.processes.items new.images.items)
      (length front) text data_pages stack_pages result
  pub kept : AreKept (G.machine old.gmi (M.held before)) (G.machine new.gmi (M.held after))
  pub used : IsWithin (usage_of (G.machine new.gmi (M.held after)))
      (usage_sum (usage_of (G.machine old.gmi (M.held before)))
      (usage_to_load data_pages stack_pages))
  pub made : G.made new.gmi ≤ G.made old.gmi + load_budget
  pub segments : segments_of (M.held after) ≡ segments_of (M.held before)
  pub rises : MapperCounts
  pub rose : Rise (M.counts before) (M.counts after) rises
