-- A cache that a segment names is made.
use Rattle.std.proofs.Common.{◌≡◌, ◌==◌, ℕ, ◌+◌, ◌<◌, ◌≤◌, Bool, true, false, cond, List, [], ◌∷◌, ◌++◌, length, map, replicate, Option, Some, None, refl, sym, ap, subst, ◌∙◌, arith}
use Rattle.std.specs.Prelude.{◌||◌, IfSome, Result, Ok, Err, is_some, nat_le, nat_lt, option_and_then, option_map, slice_get}
use Rattle.std.specs.FinMap.{get}
use Rattle.std.specs.List.{list_any}
use Rattle.std.specs.Option.{option_map_or}
use Rattle.std.proofs.lemmas.List.{length-map, length-replicate}
use Rattle.std.proofs.lemmas.List.Sums.{sum_by_push}
use Rattle.vm_ids.specs.Counting.{no_counts}
use Rattle.vm_ids.specs.Held.{Held, Segments, segments_in}
use Rattle.vm_ids.specs.declared.command.Command.TheVariants as commands
use Rattle.vm_ids.specs.declared.numbers.CacheId.{CacheId}
use Rattle.vm_ids.specs.declared.numbers.SegId.{SegId}
use Rattle.vm_ids.specs.declared.refusal.Refusal.TheVariants as refusals
use Rattle.vm_ids.specs.declared.reply.FaultAt.TheVariants as faults
use Rattle.vm_ids.specs.declared.reply.Reply.TheVariants as replies
use Rattle.vm_ids.specs.declared.reply.Trouble.TheVariants as troubles
use Rattle.vm_model.specs.declared.limits.TheConstants.{LIVE_PAGES, MOST_MADE}
use Rattle.vm_model.specs.Answering.{Answered, open_of, opened, refuse, reply, unless, with_some}
use Rattle.vm_model.specs.Machine as model
use Rattle.vm_model.specs.Machine.{Machine, cache_named, is_named_by, live_pages, pages_in}
use Rattle.vm_model.specs.Outcome.{IsNotRefused, NotRefusedButFor}
use Rattle.vm_port.specs.declared.traits.mapper.Mapper.{Ghosts as GhostsOfMapper}
use Rattle.contexts.specs.Actors.{machine_with}
use Rattle.gmi_calls.specs.Calling.{MapperCall}
use Rattle.gmi_calls.specs.Reaching.{ArePagesOf, Asked, Reached}
use Rattle.gmi_calls.proofs.Called.{every_segments}
use Rattle.gmi_calls.proofs.Opening.{opened_for, sized_for}
use Rattle.flat_mm.specs.Extents.{ArePulled}
use Rattle.flat_mm.specs.Manager.{AreKept, IsManagerSound, IsValid, Manager, caches_in, flat, machine_in, plain, room_of}
use Rattle.flat_mm.specs.Store.{AreWhole, Cache, Page, Store, is_of}
use Rattle.flat_mm.proofs.Acting.{whole_machine}
use Rattle.flat_mm.proofs.Calls.{seen_live}
use Rattle.flat_mm.proofs.Making.{caches_more, few_made, kept_more, made_many, sound_more}
use Rattle.flat_mm.proofs.Filling.{pulled_bytes, pulled_kept}
use Rattle.flat_mm.proofs.Reached.{full_call, left_call, reached_call}

-- Whether a segment names a live cache

named_by : (seg : SegId) (o : Option SegId) → option_map_or (λ s. s == seg.0) (option_map (λ (s : SegId). s.0) o) false ≡ option_map_or (λ (s : SegId). s.0 == seg.0) o false
named_by seg None = refl
named_by seg (Some s) = refl

pub has_named : (seg : SegId) (cs : List (Option Cache)) → is_some (cache_named (map (option_map plain) cs) seg.0) ≡ list_any (is_of seg) cs
has_named seg [] = refl
has_named seg (None ∷ cs) = has_named seg cs
has_named seg (Some c ∷ cs) =
    ap (λ (b : Bool). is_some (cond b (Some (plain c)) (cache_named (map (option_map plain) cs) seg.0))) (named_by seg c.segment) ∙ go (is_of seg (Some c)) (has_named seg cs)
  where
    go : (b : Bool) → is_some (cache_named (map (option_map plain) cs) seg.0) ≡ list_any (is_of seg) cs → is_some (cond b (Some (plain c)) (cache_named (map (option_map plain) cs) seg.0)) ≡ (b || list_any (is_of seg) cs)
    go true rest = refl
    go false rest = rest

-- The rows

module _ (m : Machine) (seg : ℕ) (held : Option (List model.Page)) where
  pub open_used : is_some (cache_named m.caches seg) ≡ true → open_of m seg held ≡ refuse m refusals.SegmentInUse
  unfolding open_of unless
  open_used e = rw e refl

  module _ (free : is_some (cache_named m.caches seg) ≡ false) where
    pub open_many : nat_le MOST_MADE (length m.caches) ≡ true → open_of m seg held ≡ refuse m refusals.TooMany
    unfolding open_of unless
    open_many e = rw (free, e) refl

    module _ (few : nat_le MOST_MADE (length m.caches) ≡ false) where
      pub open_none : held ≡ None → open_of m seg held ≡ refuse m refusals.NoSegment
      unfolding open_of unless with_some
      open_none e = rw (free, few, e) refl

      module _ (pages : List model.Page) (there : held ≡ Some pages) where
        pub open_large : nat_lt LIVE_PAGES (live_pages m + length pages) ≡ true → open_of m seg held ≡ refuse m refusals.TooMany
        unfolding open_of unless with_some
        open_large e = rw (free, few, there, e) refl

        pub open_row : nat_lt LIVE_PAGES (live_pages m + length pages) ≡ false → open_of m seg held ≡ reply (replies.Cache (record { 0 = length m.caches + 1 })) (record m { caches = m.caches ++ Some (opened seg pages) ∷ [] })
        unfolding open_of unless with_some
        open_row e = rw (free, few, there, e) refl

-- the machine with one cache more
abbrev pub more : Machine → ℕ → List model.Page → Machine
more m seg pages = record m { caches = m.caches ++ Some (opened seg pages) ∷ [] }

more_live : (m : Machine) (seg : ℕ) (pages : List model.Page) → live_pages (more m seg pages) ≡ live_pages m + length pages
more_live m seg pages = sum_by_push pages_in m.caches (Some (opened seg pages))

-- a segment of this size
sized_some : (o : Option (List model.Page)) (n : ℕ) → option_map length o ≡ Some n → (ps : List model.Page) × (o ≡ Some ps) × (length ps ≡ n)
sized_some None n e = absurd (cc e)
sized_some (Some ps) n e = (ps, refl, cc e)

sized_none : (o : Option (List model.Page)) → option_map length o ≡ None → o ≡ None
sized_none None e = refl
sized_none (Some ps) e = absurd (cc e)

-- pages that such a segment has, as far as it is told
pages_for : (told : Option Held) (seg : ℕ) (size : Option ℕ) (n : ℕ) → size ≡ Some n → IfSome told (λ h. size ≡ option_map length (get h.segments seg)) → (ps : List model.Page) × (length ps ≡ n) × IfSome told (ArePagesOf seg 0 ps)
pages_for None seg size n is sized = (replicate n [], length-replicate n (let p : model.Page = [] in p), tt)
pages_for (Some h) seg size n is sized =
    let S = sized_some (get h.segments seg) n (sym sized ∙ is) in (
      S.0,
      S.2,
      λ i less. ap (slice_get S.0) (let e : i ≡ 0 + i = omega arith in e) ∙ sym (ap (option_and_then (λ (ps : List model.Page). slice_get ps (0 + i))) S.1),
    )

-- The call

module _ {X T E : Type 0} (M : GhostsOfMapper X) (before after : X) (p : Manager) (seg : SegId) (valid : IsValid p (M.held before)) (free : is_some (cache_named (machine_in p).caches seg.0) ≡ false) (few : nat_le MOST_MADE (length (machine_in p).caches) ≡ false) where
  -- the mapper fails on the way
  pub open_failed : (r : Result T E) → M.held after ≡ M.held before → (R : Reached (M.counts before) (M.counts after) r) → M.page_bytes after ≡ M.page_bytes before → 0 < R.rises.faults → MapperCall M flat before p (commands.OpenSegment seg) (Err (troubles.Mapper faults.Opening)) after p
  open_failed r same R page failed =
      let m = machine_in p in
      let c = commands.OpenSegment seg in
      left_call M before after p c valid r same R page tt (troubles.Mapper faults.Opening)
      (every_segments (M.held before) m m c (Err (troubles.Mapper faults.Opening)) R.rises (λ s. (refl, failed, few_there, hidden s))) tt tt
    where
      few_there : length (machine_in p).caches < MOST_MADE
      few_there = omega (arith, few_made p.store few, made_many p.store.caches)

      hidden : (s : Segments) → NotRefusedButFor faults.Opening (open_of (machine_in p) seg.0 (get s.pages seg.0)).answer
      hidden s = go (get s.pages seg.0) refl
        where
          go : (o : Option (List model.Page)) → get s.pages seg.0 ≡ o → NotRefusedButFor faults.Opening (open_of (machine_in p) seg.0 (get s.pages seg.0)).answer
          go None e = subst (λ (y : Answered). NotRefusedButFor faults.Opening y.answer) (sym (open_none (machine_in p) seg.0 (get s.pages seg.0) free few e)) tt
          go (Some ps) e = large (nat_lt LIVE_PAGES (live_pages (machine_in p) + length ps)) refl
            where
              large : (b : Bool) → nat_lt LIVE_PAGES (live_pages (machine_in p) + length ps) ≡ b → NotRefusedButFor faults.Opening (open_of (machine_in p) seg.0 (get s.pages seg.0)).answer
              large true b = subst (λ (y : Answered). NotRefusedButFor faults.Opening y.answer) (sym (open_large (machine_in p) seg.0 (get s.pages seg.0) free few ps e b)) tt
              large false b = subst (λ (y : Answered). NotRefusedButFor faults.Opening y.answer) (sym (open_row (machine_in p) seg.0 (get s.pages seg.0) free few ps e b)) tt

  module _ (size : Option ℕ) (sized : IfSome (M.held before) (λ h. size ≡ option_map length (get h.segments seg.0))) (r : Result T E) (asked : Asked M before after r) where
    -- there is no such segment
    pub open_absent : size ≡ None → MapperCall M flat before p (commands.OpenSegment seg) (Err (troubles.Refused refusals.NoSegment)) after p
    open_absent is =
        let m = machine_in p in
        let c = commands.OpenSegment seg in
        left_call M before after p c valid r asked.held asked.reached asked.page tt (troubles.Refused refusals.NoSegment)
        (sized_for (M.held before) m c (Err (troubles.Refused refusals.NoSegment)) seg.0 size asked.reached.rises sized
        (λ s e. open_none m seg.0 (get s.pages seg.0) free few (sized_none (get s.pages seg.0) (e ∙ is)))) tt asked.quiet

    module _ (n : ℕ) (is : size ≡ Some n) where
      -- it is too large
      pub open_passes : nat_lt LIVE_PAGES (live_pages (machine_in p) + n) ≡ true → MapperCall M flat before p (commands.OpenSegment seg) (Err (troubles.Refused refusals.TooMany)) after p
      open_passes large =
          let m = machine_in p in
          let c = commands.OpenSegment seg in
          left_call M before after p c valid r asked.held asked.reached asked.page tt (troubles.Refused refusals.TooMany)
          (sized_for (M.held before) m c (Err (troubles.Refused refusals.TooMany)) seg.0 size asked.reached.rises sized
          (λ s e. let S = sized_some (get s.pages seg.0) n (e ∙ is) in
          open_large m seg.0 (get s.pages seg.0) free few S.0 S.1 (ap (λ k. nat_lt LIVE_PAGES (live_pages m + k)) S.2 ∙ large))) tt asked.quiet

      module _ (small : nat_lt LIVE_PAGES (live_pages (machine_in p) + n) ≡ false) where
        -- what it would come to
        row_of : (s : Segments) (ps : List model.Page) → get s.pages seg.0 ≡ Some ps → length ps ≡ n → open_of (machine_in p) seg.0 (get s.pages seg.0) ≡ reply (replies.Cache (record { 0 = length (machine_in p).caches + 1 })) (more (machine_in p) seg.0 ps)
        row_of s ps there long = open_row (machine_in p) seg.0 (get s.pages seg.0) free few ps there (ap (λ k. nat_lt LIVE_PAGES (live_pages (machine_in p) + k)) long ∙ small)

        -- there is no memory
        pub open_lacks : MapperCall M flat before p (commands.OpenSegment seg) (Err troubles.Memory) after p
        open_lacks =
            let m = machine_in p in
            let c = commands.OpenSegment seg in
            left_call M before after p c valid r asked.held asked.reached asked.page tt troubles.Memory
            (sized_for (M.held before) m c (Err troubles.Memory) seg.0 size asked.reached.rises sized
            (λ s e. let S = sized_some (get s.pages seg.0) n (e ∙ is) in (refl, tt, subst (λ (y : Answered). IsNotRefused y.answer) (sym (row_of s S.0 S.1 S.2)) tt))) tt tt

        -- or no room
        pub open_full : room_of p < n → MapperCall M flat before p (commands.OpenSegment seg) (Err (troubles.Refused refusals.Full)) after p
        open_full less =
            let m = machine_in p in
            let told = M.held before in
            let ps = pages_for told seg.0 size n is sized in
            let next = more m seg.0 ps.0 in
            let number : CacheId = record { 0 = length m.caches + 1 } in
            full_call M before after p (commands.OpenSegment seg) valid r asked (replies.Cache number) next refl
            (opened_for told told m next (commands.OpenSegment seg) (Ok (replies.Cache number)) seg.0 size ps.0 no_counts refl (ap (λ k. Some k) ps.1 ∙ sym is) sized ps.2 (λ s there. row_of s ps.0 there ps.1))
            (omega (arith, seen_live told next, seen_live told m, more_live m seg.0 ps.0, ps.1, less))

-- The cache that is made of the pages that were pulled

module _ {X T E : Type 0} (M : GhostsOfMapper X) (before after : X) (p : Manager) (seg : SegId) (valid : IsValid p (M.held before)) (free : is_some (cache_named (machine_in p).caches seg.0) ≡ false) (few : nat_le MOST_MADE (length (machine_in p).caches) ≡ false) (count : ℕ) (sound : IsManagerSound p.store p.actors count)
    (size : Option ℕ) (sized : IfSome (M.held before) (λ h. size ≡ option_map length (get h.segments seg.0))) (n : ℕ) (is : size ≡ Some n) (small : nat_lt LIVE_PAGES (live_pages (machine_in p) + n) ≡ false) (room : n ≤ room_of p)
    (r : Result T E) (same : M.held after ≡ M.held before) (R : Reached (M.counts before) (M.counts after) r) (page : M.page_bytes after ≡ M.page_bytes before) (pages : List Page) (many : length pages ≡ n) (pulled : ArePulled (M.held before) seg.0 0 pages) where
  bytes : List model.Page
  bytes = map (λ (x : Page). x.bytes) pages

  row : (s : Segments) → get s.pages seg.0 ≡ Some (map (λ (x : Page). x.bytes) pages) → open_of (machine_in p) seg.0 (get s.pages seg.0) ≡ reply (replies.Cache (record { 0 = length (machine_in p).caches + 1 })) (more (machine_in p) seg.0 (map (λ (x : Page). x.bytes) pages))
  row s there =
      open_row (machine_in p) seg.0 (get s.pages seg.0) free few (map (λ (x : Page). x.bytes) pages) there
      (ap (λ k. nat_lt LIVE_PAGES (live_pages (machine_in p) + k)) (length-map pages (λ (x : Page). x.bytes) ∙ many) ∙ small)

  sized_so : Some (length (map (λ (x : Page). x.bytes) pages)) ≡ size
  sized_so = ap (λ k. Some k) (length-map pages (λ (x : Page). x.bytes) ∙ many) ∙ sym is

  -- there is no memory for it
  pub adopt_lacks : MapperCall M flat before p (commands.OpenSegment seg) (Err troubles.Memory) after p
  adopt_lacks =
      let m = machine_in p in
      let told = M.held before in
      left_call M before after p (commands.OpenSegment seg) valid r same R page tt troubles.Memory
      (opened_for told told m m (commands.OpenSegment seg) (Err troubles.Memory) seg.0 size (map (λ (x : Page). x.bytes) pages) R.rises refl sized_so sized (pulled_bytes told seg.0 0 pages pulled)
      (λ s there. (refl, tt, subst (λ (y : Answered). IsNotRefused y.answer) (sym (row s there)) tt))) tt tt

  abbrev made : Cache
  made = record { segment = Some seg; pages = pages }

  module _ (u : Store) (caches : u.caches ≡ p.store.caches ++ Some (let c : Cache = record { segment = Some seg; pages = pages } in c) ∷ []) (frames : u.frames ≡ p.store.frames) (bytes_same : u.page_bytes ≡ p.store.page_bytes) (settled : u.loose ≡ []) (whole : AreWhole u) where
    pub adopt_sound : IsManagerSound u p.actors count
    adopt_sound = sound_more p.store u p.actors count made sound whole settled bytes_same caches (few_made p.store few)

    pub adopt_call : (cache : CacheId) → cache.0 ≡ length p.store.caches + 1 → MapperCall M flat before p (commands.OpenSegment seg) (Ok (replies.Cache cache)) after (record { store = u; actors = p.actors })
    adopt_call cache number =
        let m = machine_in p in
        let told = M.held before in
        let c = commands.OpenSegment seg in
        let q : Manager = record { store = u; actors = p.actors } in
        let a = Ok (replies.Cache cache) in
        let next : machine_in q ≡ more m seg.0 (map (λ (x : Page). x.bytes) pages) =
        (λ i. machine_with (map (option_map plain) (caches i)) (frames i) p.actors) ∙ ap (λ (cs : List (Option model.Cache)). machine_with cs p.store.frames p.actors) (caches_more p.store.caches made) in
        let live : live_pages (machine_in q) ≡ live_pages m + n = ap live_pages next ∙ more_live m seg.0 (map (λ (x : Page). x.bytes) pages) ∙ ap (λ k. live_pages m + k) (length-map pages (λ (x : Page). x.bytes) ∙ many) in
        let named : length m.caches + 1 ≡ cache.0 = omega (arith, number, made_many p.store.caches) in
        reached_call M before after p c valid r same R page tt q a (whole_machine u p.actors (sound.page ∙ sym bytes_same) whole)
        (opened_for told told m (machine_in q) c a seg.0 size (map (λ (x : Page). x.bytes) pages) R.rises refl sized_so sized (pulled_bytes told seg.0 0 pages pulled)
        (λ s there. row s there ∙ (λ i. reply (replies.Cache (record { 0 = named i })) (sym next i)))) tt tt
        (λ before now. omega (arith, seen_live before m, seen_live now (machine_in q), live, room))
        (kept told valid.kept pulled)
      where
        kept : (told : Option Held) → IfSome told (λ h. AreKept (segments_in h) p.store.caches) → ArePulled told seg.0 0 pages → IfSome told (λ h. AreKept (segments_in h) u.caches)
        kept None k P = tt
        kept (Some h) k P =
            subst (AreKept (segments_in h)) (sym caches)
            (kept_more (segments_in h) p.store.caches made k (λ j x q named at.
            let one : Some seg ≡ Some x = named in
            let x_is : seg ≡ x = cc one in
            subst (λ (y : SegId). Rattle.flat_mm.specs.Manager.IsKept (segments_in h) y.0 j q) x_is (subst (λ k. Rattle.flat_mm.specs.Manager.IsKept (segments_in h) seg.0 k q) (let e : 0 + j ≡ j = omega arith in e) (pulled_kept h seg.0 (0 + j) q (P j q at)))))
