-- A process gets what a part of another has.
use Rattle.std.proofs.Common.{◌≡◌, ℕ, zero, suc, ◌+◌, ◌-◌, ◌*◌, ◌≤◌, Bool, true, false, cond, List, [], ◌∷◌, length, take, drop, Option, Some, refl, sym, ap, subst, ◌∙◌, arith}
use Rattle.std.specs.Prelude.{Ok, Err, Result, slice_get, sum_by}
use Rattle.std.proofs.lemmas.List.Sums.{sum_by-cons}
use Rattle.vm_model.proofs.Parts.Lists.{numbered_place}
use Rattle.gmi_calls.proofs.Rising.{rise_none}
use Rattle.interface_callers.proofs.Words.{Cache, GhostsOfGmi, GhostsOfMapper, LIVE_PAGES, Machine, Page, Trouble, cache_of, live_pages, no_counts, numbered, pages_in}
use Rattle.mix_process.specs.Adding.{IsAdded, MapsPart, MayAdd, MayMap, Source, put_at, usage_to_map, with_more}
use Rattle.mix_process.specs.Copying.{IsCopied, MayCopy}
use Rattle.mix_process.specs.Inner.{spare_of}
use Rattle.mix_process.specs.Outcome.{Usage, usage_of, usage_to_grow}
use Rattle.mix_process.specs.ProcessMachine.{may_write}
use Rattle.mix_process.specs.Seen.{cache_pages, process_seen, processes_seen}
use Rattle.mix_process.specs.Tying.{CanCall, IsOwnCache, IsOwnPart, none_spare}
use Rattle.mix_process.specs.Use.{IsLack, IsWithin, usage_sum}
use Rattle.mix_process.specs.declared.area.Area.{Area}
use Rattle.mix_process.specs.declared.area.Area.TheVariants.{Data, Stack, Text}
use Rattle.mix_process.specs.declared.mix.Mix.{Mix}
use Rattle.mix_process.specs.declared.process.Part.{Part}
use Rattle.mix_process.specs.declared.process.Process.{Process}
use Rattle.mix_process.proofs.Calling.CallAgain.{respared}
use Rattle.mix_process.proofs.Reading.Seeing.{pages_there}
use Rattle.mix_process.proofs.Reading.Storing.{own_cache}
use Rattle.mix_process.proofs.Ties.NewCache.{part_cache}

-- no cache has more pages than all
within_sum : (cs : List (Option Cache)) (i : ℕ) (c : Cache) → slice_get cs i ≡ Some (Some c) → length c.pages ≤ sum_by pages_in cs
within_sum [] i c e = absurd (cc e)
within_sum (o ∷ cs) zero c e = let same : o ≡ Some c = cc e in omega (arith, sum_by-cons pages_in o cs, ap pages_in same)
within_sum (o ∷ cs) (suc i) c e = omega (arith, sum_by-cons pages_in o cs, within_sum cs i c e)

pub pages_few : (m : Machine) (k : ℕ) (c : Cache) → cache_of m k ≡ Some c → length (cache_pages m k) ≤ live_pages m
pages_few m k c e = omega (arith, within_sum m.caches (k - 1) c (numbered_place m.caches k c e).1, ap (λ (xs : List Page). length xs) (pages_there m k c e))

pub drop_none : {A : Type 0} (xs : List A) → drop 0 xs ≡ xs
drop_none [] = refl
drop_none (x ∷ xs) = refl

text_is : (a : Area) → may_write a ≡ false → a ≡ Text
text_is Text e = refl
text_is Data e = absurd (cc e)
text_is Stack e = absurd (cc e)

pub within_more : (u more : Usage) → IsWithin u (usage_sum u more)
within_more u more = record { living = omega arith; actors = omega arith; caches = omega arith; regions = omega arith; pages = omega arith }

text_own : (part : Part) → may_write part.area ≡ false → (k : ℕ) → spare_of (part ∷ []) k → ⊥
text_own part text k s = by s.0 s.1 s.2 s.3
  where
    by : (j : ℕ) (q : Part) → slice_get (part ∷ []) j ≡ Some q → IsOwnPart q → ⊥
    by zero q e own = let same : part ≡ q = cc e in let wrong : true ≡ false = sym own ∙ ap (λ (x : Part). may_write x.area) (sym same) ∙ text in absurd (cc wrong)
    by (suc j) q e own = absurd (cc e)

module _ {Manager X Chooser : Type 0} (M : GhostsOfMapper X) (G : GhostsOfGmi Manager X Chooser) (old : Mix Manager) (mapper : X) (can : CanCall G old (M.held mapper) (M.page_bytes mapper)) (place : ℕ) (process : Process) (part : Part)
    (may : MayCopy (G.machine old.gmi (M.held mapper)) old.processes.items place process part) where
  abbrev m : Machine
  m = G.machine old.gmi (M.held mapper)

  -- Text

  module _ (text : may_write part.area ≡ false) where
    pub may_map : MayMap G (M.held mapper) (M.page_bytes mapper) old place process part
    may_map = record {
      able = respared (numbered old.processes.items) none_spare (spare_of (part ∷ [])) can (λ k s. absurd s) (λ k s. text_own part text k s);
      room = may.room;
      is_part = may.is_part;
    }

    has_pages : length (cache_pages m part.cache.0) ≤ LIVE_PAGES
    has_pages = let c = part_cache m part.area part may.is_part in omega (arith, can.live, pages_few m part.cache.0 c.0 c.1)

    as_text : (P : Bool → Type 0) → P false → P (may_write part.area)
    as_text P h = subst P (sym text) h

    pub mapped : (result : Result (Unit {0}) Trouble) (new : Mix Manager) → MapsPart G (M.held mapper) (M.page_bytes mapper) old place process part result new → IsCopied M G mapper old place process part result mapper new
    mapped (Ok u) new h = record {
      can = h.can;
      copies = record { copy = part; area_is = refl; pages_is = refl; put = h.put; seen = h.seen };
      kept = h.kept;
      used = as_text (λ b. IsWithin (usage_of (G.machine new.gmi (M.held mapper))) (usage_sum (usage_of m) (cond b (usage_to_grow part.pages) usage_to_map))) h.used;
      made = as_text (λ b. G.made new.gmi ≤ G.made old.gmi + cond b (88 * part.pages) (8 * (part.pages + LIVE_PAGES) + 8)) (let few : length (cache_pages m part.cache.0) ≤ LIVE_PAGES = has_pages in let made : G.made new.gmi ≤ G.made old.gmi + (8 * (part.pages + length (cache_pages m part.cache.0)) + 8) = h.made in omega (arith, made, few));
      segments = refl;
      rises = no_counts;
      rose = rise_none (M.counts mapper);
    }
    mapped (Err trouble) new h = record {
      can = respared (numbered new.processes.items) (spare_of (part ∷ [])) none_spare h.able (λ k s. text_own part text k s) (λ k s. absurd s);
      copies = record { put = h.put; lack = as_text (λ b. IsLack (usage_of m) (cond b (usage_to_grow part.pages) usage_to_map) trouble) h.lack };
      kept = λ k c e. ap (λ (x : Machine). cache_of x k) h.machine ∙ e;
      used = subst (λ (x : Machine). IsWithin (usage_of x) (usage_sum (usage_of m) (cond (may_write part.area) (usage_to_grow part.pages) usage_to_map))) (sym h.machine) (within_more (usage_of m) (cond (may_write part.area) (usage_to_grow part.pages) usage_to_map));
      made = as_text (λ b. G.made new.gmi ≤ G.made old.gmi + cond b (88 * part.pages) (8 * (part.pages + LIVE_PAGES) + 8)) (let few : length (cache_pages m part.cache.0) ≤ LIVE_PAGES = has_pages in let made : G.made new.gmi ≤ G.made old.gmi + (8 * (part.pages + length (cache_pages m part.cache.0)) + 8) = h.made in omega (arith, made, few));
      segments = refl;
      rises = no_counts;
      rose = rise_none (M.counts mapper);
    }

  -- What the process writes

  module _ (own : may_write part.area ≡ true) where
    abbrev pub source : Option Source
    source = Some (part.cache, (record { 0 = 0 }))

    is_own : IsOwnCache m part
    is_own = own_cache m part.area part own may.is_part

    pub may_add : MayAdd m old.processes.items place process part.area part.pages source
    may_add = record { room = may.room; own = own; source_there = (is_own.cache, is_own.there, (let enough : 0 + part.pages ≤ length is_own.cache.pages = omega (arith, is_own.many) in enough)) }

    as_own : (P : Bool → Type 0) → P true → P (may_write part.area)
    as_own P h = subst P (sym own) h

    many : length (cache_pages m part.cache.0) ≡ part.pages
    many = ap (λ (xs : List Page). length xs) (pages_there m part.cache.0 is_own.cache is_own.there) ∙ is_own.many

    module _ (after : X) (new : Mix Manager) where
      cost_is : (result : Result (Unit {0}) Trouble) → IsAdded M G mapper old place process part.area part.pages source result after new → G.made new.gmi ≤ G.made old.gmi + 88 * part.pages
      cost_is result h = let made : G.made new.gmi ≤ G.made old.gmi + (80 * part.pages + 8 * length (cache_pages m part.cache.0)) = h.made in omega (arith, made, many)

      pub added : (result : Result (Unit {0}) Trouble) → IsAdded M G mapper old place process part.area part.pages source result after new → IsCopied M G mapper old place process part result after new
      added (Ok u) h = record {
        can = h.can;
        copies = record {
          copy = h.adds.part;
          area_is = h.adds.area_is;
          pages_is = h.adds.pages_is;
          put = h.adds.put;
          seen = h.adds.seen ∙ ap (λ (xs : List Page). put_at (processes_seen m old.processes.items old.images.items) place (with_more part.area (take part.pages xs) (process_seen m process))) (drop_none (cache_pages m part.cache.0));
        };
        kept = h.kept;
        used = as_own (λ b. IsWithin (usage_of (G.machine new.gmi (M.held after))) (usage_sum (usage_of m) (cond b (usage_to_grow part.pages) usage_to_map))) h.used;
        made = as_own (λ b. G.made new.gmi ≤ G.made old.gmi + cond b (88 * part.pages) (8 * (part.pages + LIVE_PAGES) + 8)) (cost_is (Ok u) h);
        segments = h.segments;
        rises = h.rises;
        rose = h.rose;
      }
      added (Err trouble) h = record {
        can = h.can;
        copies = record { put = h.adds.put; lack = as_own (λ b. IsLack (usage_of m) (cond b (usage_to_grow part.pages) usage_to_map) trouble) h.adds.lack };
        kept = h.kept;
        used = as_own (λ b. IsWithin (usage_of (G.machine new.gmi (M.held after))) (usage_sum (usage_of m) (cond b (usage_to_grow part.pages) usage_to_map))) h.used;
        made = as_own (λ b. G.made new.gmi ≤ G.made old.gmi + cond b (88 * part.pages) (8 * (part.pages + LIVE_PAGES) + 8)) (cost_is (Err trouble) h);
        segments = h.segments;
        rises = h.rises;
        rose = h.rose;
      }
