-- A region is mapped: what that call of the manager of segments comes to.
use Rattle.std.proofs.Common.{◌≡◌, inl, inr, ◌==◌, ℕ, ◌+◌, ◌-◌, Bool, true, false, List, map, Option, Some, None, refl, sym, ap, subst, ◌∙◌, arith}
use Rattle.std.specs.Prelude.{◌||◌, Ok, Err, insert, nat_lt, not}
use Rattle.std.specs.Global.{Vec}
use Rattle.std.specs.List.{list_any}
use Rattle.std.specs.Option.{option_map_or}
use Rattle.std.proofs.lemmas.Bool.{cases_eq, eq-eqb, ne_eqb}
use Rattle.vm_ids.specs.declared.command.Command.TheVariants.{Map}
use Rattle.vm_ids.specs.declared.command.KeepCommand.TheVariants.{Plain}
use Rattle.vm_ids.specs.declared.reply.Reply.TheVariants as replies
use Rattle.vm_ids.specs.declared.reply.Trouble.TheVariants as troubles
use Rattle.gmi_calls.proofs.Rising.{rise_none}
use Rattle.gmi_calls.proofs.Still.{without_mapper}
use Rattle.interface_callers.proofs.Words.{ActorId, Answer, CallDone, GhostsOfGmi, GhostsOfMapper, Machine, MapperCall, Mapping, OutcomeAt, RegionId, Segments, Trouble, maps_in, meanings_of, no_counts, region_of, segment_of, segments_of}
use Rattle.interface_callers.proofs.Mapped.{maps_then}
use Rattle.seg_manager.specs.Calling.{Serves}
use Rattle.seg_manager.specs.Inner.{mapping_shown, place_from, shown}
use Rattle.seg_manager.specs.Seen.{maps, openings_in}
use Rattle.seg_manager.specs.Tying.{AreTied, CanCall, noted_of, noted_regions}
use Rattle.seg_manager.specs.declared.manager.SegManager.{SegManager}
use Rattle.seg_manager.specs.declared.tables.Kept.{Kept}
use Rattle.seg_manager.specs.declared.tables.Mapped.{Mapped}
use Rattle.seg_manager.specs.declared.tables.Named.{Named}
use Rattle.seg_manager.proofs.Calling.CallAgain.{backed_next, call_is, forest, m, n}
use Rattle.seg_manager.proofs.Seeing.View.{is_hidden}
use Rattle.seg_manager.proofs.Calling.MapRow.{IsAdded, map_added, map_answered, map_same}
use Rattle.seg_manager.proofs.Lookup.RegionNoted.{noted_added, noted_insert, put_noted}
use Rattle.seg_manager.proofs.Calling.PassedOn.{IsAnswered, IsHiding, shown_visible}
use Rattle.seg_manager.proofs.Calling.Served.{answered_call}
use Rattle.seg_manager.proofs.Seeing.SameSegments.{segments_in, tied_alike}
use Rattle.seg_manager.proofs.Calling.Pushing.{pushes_none}
use Rattle.seg_manager.proofs.Calling.Staying.{Stays, stays_call}
use Rattle.seg_manager.proofs.Seeing.Unused.{is_unreferenced_by, mapped_is, unreferenced_same}

module _ {Manager X Chooser : Type 0} (M : GhostsOfMapper X) (G : GhostsOfGmi Manager X Chooser) (old : SegManager Manager) (mapper : X) (able : CanCall G old (M.held mapper) (M.page_bytes mapper)) (actor : ActorId) (p : Mapping) where
  abbrev told : Option Segments
  told = segments_of (M.held mapper)

  abbrev cs : List Named
  cs = old.caches.items

  abbrev ks : List Kept
  ks = old.kept.items

  abbrev rs : List Mapped
  rs = old.regions.items

  abbrev found : Mapping
  found = mapping_shown ks p

  answered : (x : Machine) → IsHiding (openings_in cs) x ks → IsAnswered (openings_in cs) x (Map actor found) (Map actor p)
  answered x hiding = map_answered (openings_in cs) x ks hiding actor p

  -- as it is noted
  abbrev pub noted : RegionId → Mapped
  noted region = record { actor = actor; region = region; address = p.address; cache = shown ks p.extent.cache }

  -- There was no memory to note it.
  pub lacks_map : (new : SegManager Manager) → new ≡ record old { regions = new.regions } → new.regions.items ≡ rs → Serves M G mapper old (Map actor p) (Err troubles.Memory) mapper new
  lacks_map new is same = subst (λ (z : SegManager Manager). Serves M G mapper old (Map actor p) (Err troubles.Memory) mapper z) (sym is) (record {
    call = stays_call M G mapper old able mapper (record old { regions = new.regions }) (Plain (Map actor p)) troubles.Memory no_counts stays (λ r. tt) (λ h. (refl, tt, tt));
    kept = refl;
  })
    where
      stays : Stays M G mapper old able mapper (record old { regions = new.regions }) no_counts
      stays = record {
        can = record {
          valid = able.valid;
          unlimited = able.unlimited;
          fits = able.fits;
          live = able.live;
          few = able.few;
          tied = subst (λ (xs : List Mapped). AreTied (G.machine old.gmi (M.held mapper)) told cs ks old.kept.room xs) (sym same) able.tied;
          blank = able.blank;
        };
        made = omega arith;
        limit = refl;
        many = refl;
        rose = rise_none (M.counts mapper);
        pushed = pushes_none M G mapper old no_counts;
        seen = refl;
        denied = refl;
      }

  module _ (gmi : Manager) (a : Answer) (done : CallDone (meanings_of G) old.gmi (Map actor found) a gmi) where
    abbrev call : MapperCall M (meanings_of G) mapper old.gmi (Map actor found) a mapper gmi
    call = without_mapper M (meanings_of G) mapper old.gmi able.valid (Map actor found) a gmi done

    abbrev x : Machine
    x = m M G old gmi mapper mapper (Map actor found) a able call

    abbrev y : Machine
    y = n M G old gmi mapper mapper (Map actor found) a able call

    serves : (regions : Vec Mapped) → (segments_in y.caches ≡ segments_in x.caches → AreTied y told cs ks old.kept.room regions.items) → Serves M G mapper old (Map actor p) a mapper (record old { gmi = gmi; regions = regions })
    serves regions tied = record {
      call = answered_call M G old gmi mapper mapper (Map actor found) a able call (Map actor p) answered (record old { regions = regions }) refl refl tied;
      kept = refl;
    }

    -- It wasn't mapped.
    not_mapped : (t : Trouble) → a ≡ Err t → (regions : Vec Mapped) → regions.items ≡ rs → Serves M G mapper old (Map actor p) a mapper (record old { gmi = gmi; regions = regions })
    not_mapped t is regions same = serves regions (λ e.
        tied_alike x y told told cs ks old.kept.room rs regions.items able.tied e
        (ap (map noted_of) same ∙ able.tied.regions ∙ sym (ap (noted_regions 1) (by a is (call_is M G old gmi mapper mapper (Map actor found) a able call).is.outcome)))
        (λ q i. is_unreferenced_by x cs (same i) q) (backed_next M G old gmi mapper mapper (Map actor found) a able call))
      where
        by : (b : Answer) → b ≡ Err t → OutcomeAt told x (forest M G old gmi mapper mapper (Map actor found) a able call) (Map actor found) b y (call_is M G old gmi mapper mapper (Map actor found) a able call).rises → y.actors ≡ x.actors
        by b e o = map_same told x y (forest M G old gmi mapper mapper (Map actor found) a able call) actor found t (call_is M G old gmi mapper mapper (Map actor found) a able call).rises
            (subst (λ (b : Answer). OutcomeAt told x (forest M G old gmi mapper mapper (Map actor found) a able call) (Map actor found) b y (call_is M G old gmi mapper mapper (Map actor found) a able call).rises) e o)

    -- It was mapped, and is noted.
    module _ (region : RegionId) (is : a ≡ Ok (replies.Region region)) (regions : Vec Mapped) where
      it : IsAdded x y actor.0 found (replies.Region region)
      it = map_added told x y (forest M G old gmi mapper mapper (Map actor found) a able call) actor found (replies.Region region) (call_is M G old gmi mapper mapper (Map actor found) a able call).rises
          (subst (λ (b : Answer). OutcomeAt told x (forest M G old gmi mapper mapper (Map actor found) a able call) (Map actor found) b y (call_is M G old gmi mapper mapper (Map actor found) a able call).rises) is
          (call_is M G old gmi mapper mapper (Map actor found) a able call).is.outcome)

      number : region.0 ≡ it.number
      number = let same : region ≡ (let r : RegionId = record { 0 = it.number } in r) = (let e : replies.Region region ≡ replies.Region (record { 0 = it.number }) = it.reply in cc e) in ap (λ (r : RegionId). r.0) same

      own : actor.0 ≡ 1 + (actor.0 - 1)
      own = omega (arith, it.some)

      module _ (put : regions.items ≡ insert rs (place_from (noted region) 0 rs) (noted region)) where
        regions_are : map noted_of regions.items ≡ noted_regions 1 y.actors
        regions_are =
            ap (map noted_of) put
            ∙ noted_insert (noted region) rs
            ∙ ap (put_noted (noted_of (noted region))) able.tied.regions
            ∙ (λ i. put_noted (record { actor = own i; region = number i; address = p.address; cache = (shown ks p.extent.cache).0 }) (noted_regions 1 x.actors))
            ∙ sym (ap (noted_regions 1) it.actors ∙ noted_added 1 x.actors (actor.0 - 1) (region_of it.number found) it.regions it.here)

        any_then : (q : ℕ) → list_any (maps q) regions.items ≡ (((shown ks p.extent.cache).0 == q) || list_any (maps q) rs)
        any_then q =
            mapped_is y regions.items regions_are q
            ∙ ap (list_any (maps_in q)) it.actors
            ∙ maps_then x.actors (actor.0 - 1) it.regions (region_of it.number found) it.here q
            ∙ ap (λ (b : Bool). ((shown ks p.extent.cache).0 == q) || b) (sym (mapped_is x rs able.tied.regions q))

        off : (s : Option ℕ) → option_map_or (λ seg. not (nat_lt 0 (openings_in cs seg) || true)) s false ≡ false
        off None = refl
        off (Some seg) = by (nat_lt 0 (openings_in cs seg))
          where
            by : (b : Bool) → not (b || true) ≡ false
            by true = refl
            by false = refl

        -- the same caches are referred to: it isn't kept
        alike : (q : ℕ) → is_unreferenced_by x cs regions.items q ≡ is_unreferenced_by x cs rs q
        alike q = elim (cases_eq (shown ks p.extent.cache).0 q) [
          | inl same ↦ (λ i. option_map_or (λ seg. not (nat_lt 0 (openings_in cs seg) || (any_then q ∙ ap (λ (b : Bool). b || list_any (maps q) rs) (eq-eqb (shown ks p.extent.cache).0 q same)) i)) (segment_of x q) false)
              ∙ off (segment_of x q)
              ∙ sym (sym (unreferenced_same x told cs rs able.tied.regions q) ∙ ap (is_hidden (openings_in cs) x) (sym same) ∙ shown_visible (openings_in cs) x ks able.tied.kept p.extent.cache)
          | inr other ↦ (λ i. option_map_or (λ seg. not (nat_lt 0 (openings_in cs seg) || (any_then q ∙ ap (λ (b : Bool). b || list_any (maps q) rs) (ne_eqb (shown ks p.extent.cache).0 q other)) i)) (segment_of x q) false)
        ]

        was_mapped : Serves M G mapper old (Map actor p) a mapper (record old { gmi = gmi; regions = regions })
        was_mapped = serves regions (λ e. tied_alike x y told told cs ks old.kept.room rs regions.items able.tied e regions_are alike (backed_next M G old gmi mapper mapper (Map actor found) a able call))

  -- By the calls that it makes

  module _ (asked : Mapping) (is : asked ≡ found) (gmi : Manager) (new : SegManager Manager) (then_is : new ≡ record old { gmi = gmi; regions = new.regions }) where
    abbrev Ends : Answer → Type 0
    Ends a = Serves M G mapper old (Map actor p) a mapper new

    pub map_refused : (t : Trouble) → CallDone (meanings_of G) old.gmi (Map actor asked) (Err t) gmi → new.regions.items ≡ rs → Ends (Err t)
    map_refused t done same =
        subst (λ (z : SegManager Manager). Serves M G mapper old (Map actor p) (Err t) mapper z) (sym then_is)
        (not_mapped gmi (Err t) (subst (λ (q : Mapping). CallDone (meanings_of G) old.gmi (Map actor q) (Err t) gmi) is done) t refl new.regions same)

    pub map_done : (region : RegionId) → CallDone (meanings_of G) old.gmi (Map actor asked) (Ok (replies.Region region)) gmi → new.regions.items ≡ insert rs (place_from (noted region) 0 rs) (noted region) → Ends (Ok (replies.Region region))
    map_done region done put =
        subst (λ (z : SegManager Manager). Serves M G mapper old (Map actor p) (Ok (replies.Region region)) mapper z) (sym then_is)
        (was_mapped gmi (Ok (replies.Region region)) (subst (λ (q : Mapping). CallDone (meanings_of G) old.gmi (Map actor q) (Ok (replies.Region region)) gmi) is done) region refl new.regions put)
