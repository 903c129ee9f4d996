-- No segment is open yet.
use Rattle.std.proofs.Common.{◌≡◌, ◌==◌, ℕ, ◌≤◌, Bool, true, false, cond, List, [], length, Option, Some, None, refl, sym, ap, subst, ◌∙◌, arith}
use Rattle.std.specs.Prelude.{IfSome, option_and_then}
use Rattle.std.specs.Option.{option_map_or}
use Rattle.interface_callers.proofs.Words.{AreBacked, Cache, GhostsOfGmi, Held, LIVE_PAGES, Machine, Segments, cache_of, live_pages, numbered, segment_of, segments_of}
use Rattle.interface_callers.proofs.Blanks.{blank_bare}
use Rattle.seg_manager.specs.Calling.{beginning}
use Rattle.seg_manager.specs.ReferenceMachine.{goes, stored_from, used}
use Rattle.seg_manager.specs.Seen.{known, references_seen, state_of, stored_beside, whole_of}
use Rattle.seg_manager.specs.Tying.{AreTied, CanCall, IsBare, namings, noted_regions}
use Rattle.seg_manager.specs.declared.manager.SegManager.{SegManager}
use Rattle.seg_manager.specs.declared.tables.Kept.{Kept}
use Rattle.seg_manager.specs.declared.tables.Mapped.{Mapped}
use Rattle.seg_manager.specs.declared.tables.Named.{Named}

nothing : {A : Type 0} (n : ℕ) → numbered (let xs : List (Option A) = [] in xs) n ≡ None
nothing {A} n = by (n == 0)
  where
    by : (b : Bool) → cond {A = Option A} b None None ≡ None
    by true = refl
    by false = refl

module _ (m : Machine) (none : m.caches ≡ []) where
  no_cache : (n : ℕ) → cache_of m n ≡ None
  no_cache n = ap (λ (cs : List (Option Cache)). numbered cs n) none ∙ nothing n

  no_segment : (n : ℕ) → segment_of m n ≡ None
  no_segment n = ap (option_and_then (λ (c : Cache). c.segment)) (no_cache n)

  backs_none : (s : Segments) → AreBacked m.caches s
  backs_none s = record {
    apart = λ a b seg c d e f p q. absurd (let wrong : None ≡ Some c = sym (no_cache a) ∙ e in cc wrong);
    backed = λ number seg c e p. absurd (let wrong : None ≡ Some c = sym (no_cache number) ∙ e in cc wrong);
  }

  backed_none : (told : Option Segments) → IfSome told (λ h. AreBacked m.caches h)
  backed_none None = tt
  backed_none (Some s) = backs_none s

  tied_none : (told : Option Segments) (room : ℕ) → noted_regions 1 m.actors ≡ [] → AreTied m told [] [] room []
  tied_none told room bare = record {
    caches = ap (namings 1) (sym none);
    regions = sym bare;
    apart = λ i j seg e f. absurd (let wrong : None ≡ Some seg = sym (no_segment i) ∙ e in cc wrong);
    kept = λ n. sym (ap (λ (o : Option Cache). option_map_or (goes (whole_of m told []) n) o false) (no_cache n));
    named = tt;
    once = tt;
    fits = omega arith;
    backed = backed_none told;
  }

  seen_none : (told : Option Segments) → references_seen m told [] ≡ known told (record { memory = m; stored = stored_beside m told; openings = λ seg. 0 })
  seen_none None = λ i. record { memory = record m { caches = (ap (used (whole_of m None []) 1) none ∙ sym none) i }; stored = λ seg. None; openings = λ seg. 0 }
  seen_none (Some h) = λ i. record {
    memory = record m { caches = (ap (used (whole_of m (Some h) []) 1) none ∙ sym none) i };
    stored = ap (stored_from (whole_of m (Some h) []) 1) none i;
    openings = λ seg. 0;
  }

module _ {Manager Mapper Chooser : Type 0} (G : GhostsOfGmi Manager Mapper Chooser) (manager : SegManager Manager) (caches : manager.caches.items ≡ []) (kept : manager.kept.items ≡ []) (regions : manager.regions.items ≡ []) (told : Option Held) (page_bytes : Option ℕ)
    (bare : IsBare G manager.gmi told page_bytes) where
  abbrev m : Machine
  m = G.machine manager.gmi told

  pub can_begin : CanCall G manager told page_bytes
  can_begin = record {
    valid = bare.valid;
    unlimited = bare.unlimited;
    fits = bare.fits;
    live = subst (λ (n : ℕ). n ≤ LIVE_PAGES) (sym (ap (λ (cs : List (Option Cache)). live_pages (record m { caches = cs })) bare.caches)) (omega arith);
    few = omega (arith, ap length bare.caches);
    tied = subst (λ (cs : List Named). AreTied m (segments_of told) cs manager.kept.items manager.kept.room manager.regions.items) (sym caches)
        (subst (λ (ks : List Kept). AreTied m (segments_of told) [] ks manager.kept.room manager.regions.items) (sym kept)
        (subst (λ (rs : List Mapped). AreTied m (segments_of told) [] [] manager.kept.room rs) (sym regions)
        (tied_none m bare.caches (segments_of told) manager.kept.room bare.regions)));
    blank = blank_bare told m bare.caches;
  }

  pub begins : state_of G manager told ≡ beginning m (segments_of told)
  begins = λ i. record {
    references = (ap (references_seen m (segments_of told)) caches ∙ seen_none m bare.caches (segments_of told)) i;
    segments = segments_of told;
  }
