-- Each command is answered alike by two machines of which the second is the first but for the
-- numbers of caches.
use Rattle.std.proofs.Common.{◌≡◌, ◌==◌, inl, inr, ℕ, ◌+◌, ◌-◌, ◌*◌, ◌%◌, ◌^◌, ◌<◌, ◌≤◌, Bool, true, false, cond, List, [], ◌∷◌, ◌++◌, length, map, set, Option, Some, None, refl, sym, ap, subst, ◌∙◌, arith}
use Rattle.std.specs.Prelude.{◌&&◌, ◌||◌, IfOk, IsSome, count_by, drop, is_some, nat_le, nat_lt, not, option_map, slice_get, take, unwrap_or, Result, Ok, Err}
use Rattle.std.specs.List.{list_any, range_with_len}
use Rattle.std.specs.Option.{option_map_or}
use Rattle.std.proofs.lemmas.Bool.{eqb-true}
use Rattle.std.proofs.lemmas.List.{length-map, map-append, map-set}
use Rattle.vm_ids.specs.declared.command.Command.TheVariants as plain_commands
use Rattle.vm_ids.specs.declared.command.KeepCommand.{KeepCommand}
use Rattle.vm_ids.specs.declared.command.KeepCommand.TheVariants as commands
use Rattle.vm_ids.specs.declared.refusal.Refusal.TheVariants as refusals
use Rattle.vm_ids.specs.declared.reply.Reply.TheVariants as replies
use Rattle.vm_model.specs.Answering as plain
use Rattle.vm_model.specs.Regions.{region_with}
use Rattle.vm_model.proofs.Parts.Lists.{numbered_place}
use Rattle.interface_callers.proofs.Words.{Actor, Answer, Cache, LIVING_ACTORS, Machine, Mapping, MOST_MADE, Page, Place, Refusal, Region, Reply, Segments, Span, actor_of, cache_of, denies, insert_region, is_denied_page, is_locked_page, living_actors, maps_in, opened, overlaps, overwrite, page_at, place, place_of_actor, put_cache, put_page, put_pages, put_span, region_of, segment_of, shares, temporary, unless, with_ok, with_some, without_region, write_at}
use Rattle.interface_callers.proofs.Lists.{any_at}
use Rattle.seg_manager.specs.Answering.{Answered, MayHave, answer_of, close_of, leaving_by, make_temp_of, open_anew, open_by, open_of, refuse, reply, with_memory, within}
use Rattle.seg_manager.specs.Limits.{NameTheSame, Renaming, renamed, renamed_actors, renamed_answer, renamed_mapping, renamed_region, renamed_span, renaming_behind, with_pair}
use Rattle.seg_manager.specs.ReferenceMachine.{ReferenceMachine, Stored, add_cache, close_one, is_open, let_go, number_named, open_one, take_stored, with_cache}
use Rattle.seg_manager.proofs.Definition.Alike.{Match, Matches, actor, both_let_go, locked, nowhere, number_same, same, segment, with_actors, with_new, with_put}
use Rattle.seg_manager.proofs.Lookup.Entries.{fun_same}
use Rattle.seg_manager.proofs.Definition.Renaming.{any_change, any_insert, any_map, any_push, any_set, living_renamed, without_maps, insert_renamed, ok_map, pair_again, pair_at, place_renamed, placed_by, with_renamed, without_renamed}
use Rattle.seg_manager.proofs.Definition.Reopening.{past}

-- Rows of two machines

module _ (P : plain.Answered → plain.Answered → Type 0) (m n : Machine) where
  unless_both : (bad was : Bool) (x : Refusal) (go went : plain.Answered) → was ≡ bad → P (plain.refuse m x) (plain.refuse n x) → (was ≡ false → P go went) → P (unless bad x m go) (unless bad x n went)
  unfolding unless
  unless_both true was x go went e refused goes = refused
  unless_both false was x go went e refused goes = goes e

  both_unless : {bad too : Bool} {x : Refusal} {go went : plain.Answered} → too ≡ bad → P (plain.refuse m x) (plain.refuse n x) → (bad ≡ false → P go went) → P (unless bad x m go) (unless too x n went)
  both_unless {bad} {too} {x} {go} {went} e refused goes = subst (λ (b : Bool). P (unless bad x m go) (unless b x n went)) (sym e) (unless_both bad bad x go went refl refused goes)

  some_both : {A B : Type 0} (f : A → B) (o was : Option A) (x : Refusal) (go : A → plain.Answered) (went : B → plain.Answered) → was ≡ o → P (plain.refuse m x) (plain.refuse n x) → ((y : A) → was ≡ Some y → P (go y) (went (f y)))
      → P (with_some o x m go) (with_some (option_map f o) x n went)
  unfolding with_some
  some_both f None was x go went e refused goes = refused
  some_both f (Some y) was x go went e refused goes = goes y e

  both_some : {A B : Type 0} (f : A → B) {o : Option A} {too : Option B} {x : Refusal} {go : A → plain.Answered} (went : B → plain.Answered) → too ≡ option_map f o → P (plain.refuse m x) (plain.refuse n x) → ((y : A) → o ≡ Some y → P (go y) (went (f y)))
      → P (with_some o x m go) (with_some too x n went)
  both_some {A} {B} f {o} {too} {x} {go} went e refused goes = subst (λ (p : Option B). P (with_some o x m go) (with_some p x n went)) (sym e) (some_both f o o x go went refl refused goes)

  both_there : {o too : Option Cache} {x : Refusal} {go went : Cache → plain.Answered} → too ≡ o → P (plain.refuse m x) (plain.refuse n x) → ((c : Cache) → o ≡ Some c → P (go c) (went c)) → P (with_some o x m go) (with_some too x n went)
  both_there {o} {too} {x} {go} {went} e refused goes = both_some (λ c. c) went (e ∙ self o) refused goes
    where
      self : (o : Option Cache) → o ≡ option_map (λ c. c) o
      self None = refl
      self (Some c) = refl

  ok_both : {A B : Type 0} (f : A → B) (o : Result A Refusal) (go : A → plain.Answered) (went : B → plain.Answered) → ((x : Refusal) → P (plain.refuse m x) (plain.refuse n x)) → ((y : A) → P (go y) (went (f y)))
      → P (with_ok o m go) (with_ok (ok_map f o) n went)
  unfolding with_ok
  ok_both f (Err x) go went refused goes = refused x
  ok_both f (Ok y) go went refused goes = goes y

  both_ok : {A B : Type 0} (f : A → B) (o : Result A Refusal) {too : Result B Refusal} {go : A → plain.Answered} (went : B → plain.Answered) → too ≡ ok_map f o → ((x : Refusal) → P (plain.refuse m x) (plain.refuse n x)) → ((y : A) → P (go y) (went (f y)))
      → P (with_ok o m go) (with_ok too n went)
  both_ok {A} {B} f o {too} {go} went e refused goes = subst (λ (p : Result B Refusal). P (with_ok o m go) (with_ok p n went)) (sym e) (ok_both f o go went refused goes)

-- Two answers

-- The second is the first, and so are the machines behind them, where what the answers tell is one.
pub record Fits (r : Renaming) (a b : Answered) : Type 0 where
  pub answer : b.answer ≡ renamed_answer (renaming_behind r a.answer b.answer) a.answer
  pub next : Match (renaming_behind r a.answer b.answer) a.next b.next

module _ (r : Renaming) (m n : ReferenceMachine) (M : Match r m n) (names : Renaming) (named : NameTheSame r m n names) where
  abbrev f : Region → Region
  f = renamed_region r

  -- the plain rows, after which nothing goes, and those after which caches may go
  abbrev W : plain.Answered → plain.Answered → Type 0
  W a b = Fits r (within m a) (within n b)

  abbrev L : plain.Answered → plain.Answered → Type 0
  L a b = Fits r (leaving_by m a) (leaving_by n b)

  refused : {x : Refusal} → W (plain.refuse m.memory x) (plain.refuse n.memory x)
  refused = record { answer = refl; next = M }

  left : {x : Refusal} → L (plain.refuse m.memory x) (plain.refuse n.memory x)
  left = record { answer = refl; next = M }

  matched : (x y : Machine) → Matches r x y → Match r (with_memory m x) (with_memory n y)
  matched x y k = record { memory = k; stored = M.stored; openings = M.openings }

  done : (x y : Machine) → Matches r x y → W (plain.reply replies.Done x) (plain.reply replies.Done y)
  done x y k = record { answer = refl; next = matched x y k }

  leaves : (x y : Machine) → Matches r x y → L (plain.reply replies.Done x) (plain.reply replies.Done y)
  leaves x y k = record { answer = refl; next = both_let_go r (with_memory m x) (with_memory n y) (matched x y k) }

  made : length n.memory.actors ≡ length m.memory.actors
  made = ap length M.memory.is.actors ∙ length-map m.memory.actors (option_map (map f))

  actor_row : W (plain.make_actor_of m.memory) (plain.make_actor_of n.memory)
  unfolding plain.make_actor_of
  actor_row = both_unless W m.memory n.memory crowded refused (λ few. record {
    answer = ap (λ (k : ℕ). Ok (replies.Actor (record { 0 = k + 1 }))) made;
    next = matched _ _ (with_actors r m.memory n.memory M.memory _ _ m.memory.regions_made n.memory.regions_made
        (ap (λ (xs : List (Option Actor)). xs ++ Some [] ∷ []) M.memory.is.actors ∙ sym (map-append (option_map (map f)) m.memory.actors (Some [] ∷ [])))
        M.memory.is.regions_made
        (λ k e. M.memory.live k (any_push (maps_in k) m.memory.actors (Some []) refl e)));
  })
    where
      crowded : (nat_le LIVING_ACTORS (living_actors n.memory) || nat_le MOST_MADE (length n.memory.actors)) ≡ (nat_le LIVING_ACTORS (living_actors m.memory) || nat_le MOST_MADE (length m.memory.actors))
      crowded = λ i. nat_le LIVING_ACTORS ((ap (count_by is_some) M.memory.is.actors ∙ living_renamed r m.memory.actors) i) || nat_le MOST_MADE (made i)

  exit_row : (a : ℕ) → L (plain.exit_actor_of m.memory a) (plain.exit_actor_of n.memory a)
  unfolding plain.exit_actor_of
  exit_row a = both_some L m.memory n.memory (map f) _ (actor r m.memory n.memory M.memory a) left (λ regions alive.
      leaves _ _ (with_actors r m.memory n.memory M.memory (set m.memory.actors (a - 1) None) _ m.memory.regions_made n.memory.regions_made
      (ap (λ (xs : List (Option Actor)). set xs (a - 1) None) M.memory.is.actors ∙ sym (map-set (option_map (map f)) m.memory.actors (a - 1) None))
      M.memory.is.regions_made
      (λ k e. elim (any_set (maps_in k) m.memory.actors (a - 1) None e) [
        | inl q ↦ absurd (cc q)
        | inr q ↦ M.memory.live k q
      ])))

  unmap_row : (number : ℕ) → L (plain.unmap_of m.memory number) (plain.unmap_of n.memory number)
  unfolding plain.unmap_of
  unmap_row number = both_some L m.memory n.memory f _ (ap (region_with number) M.memory.is.actors ∙ with_renamed r number m.memory.actors) left (λ x there.
      both_unless L m.memory n.memory refl left (λ free.
      leaves _ _ (with_actors r m.memory n.memory M.memory (map (option_map (without_region number)) m.memory.actors) _ m.memory.regions_made n.memory.regions_made
      (ap (map (option_map (without_region number))) M.memory.is.actors ∙ without_renamed r number m.memory.actors)
      M.memory.is.regions_made
      (λ k e. M.memory.live k (any_change (maps_in k) (option_map (without_region number)) (without_maps k number) m.memory.actors e)))))

  -- what commands name
  named_cache : (k : ℕ) → cache_of n.memory (names k) ≡ cache_of m.memory k
  named_cache k = elim (named k) [
    | inl e ↦ ap (cache_of n.memory) e ∙ M.memory.is.caches k
    | inr e ↦ e.1 ∙ sym e.0
  ]

  live_name : (k : ℕ) (c : Cache) → cache_of m.memory k ≡ Some c → names k ≡ r k
  live_name k c there = elim (named k) [
    | inl e ↦ e
    | inr e ↦ absurd (let wrong : None ≡ Some c = sym e.0 ∙ there in cc wrong)
  ]

  module _ (h g : Segments) (D : g.denied ≡ h.denied) where
    denied : (cache page : ℕ) → is_denied_page n.memory g (r cache) page ≡ is_denied_page m.memory h cache page
    denied cache page = λ i. option_map_or (λ seg. denies (D i) seg page) (segment r m.memory n.memory M.memory cache i) false

    copy_row : (s : Span) → W (plain.copy_of m.memory s h) (plain.copy_of n.memory (renamed_span names s) g)
    unfolding plain.copy_of
    copy_row s =
        both_there W m.memory n.memory (named_cache s.from.0) refused (λ source from.
        both_there W m.memory n.memory (named_cache s.to.0) refused (λ destination to.
        let from_is = live_name s.from.0 source from in
        let to_is = live_name s.to.0 destination to in
        both_unless W m.memory n.memory refl refused (λ inside.
        both_unless W m.memory n.memory (ap (λ (b : Bool). b && shares s.from_page.0 s.pages s.to_page.0 s.pages) ((λ i. from_is i == to_is i) ∙ same r m.memory n.memory M.memory s.from.0 s.to.0)) refused (λ apart.
        both_unless W m.memory n.memory (of_pages s (is_locked_page n.memory) (is_locked_page m.memory s.to.0) to_is (locked r m.memory n.memory M.memory s.to.0)) refused (λ unlocked.
        both_unless W m.memory n.memory (of_pages s (is_denied_page n.memory g) (is_denied_page m.memory h s.to.0) to_is (denied s.to.0)) refused (λ allowed.
        done _ _ (subst (λ (k : ℕ). Matches r (put_span m.memory s source destination) (put_cache n.memory k (filled s source destination))) (sym to_is)
        (with_put r m.memory n.memory M.memory s.to.0 destination (filled s source destination) to refl))))))))
      where
        filled : Span → Cache → Cache → Cache
        filled s source destination = put_pages s.to_page.0 (take s.pages (drop s.from_page.0 source.pages)) destination

        of_pages : (s : Span) (q : ℕ → ℕ → Bool) (p : ℕ → Bool) → names s.to.0 ≡ r s.to.0 → ((page : ℕ) → q (r s.to.0) page ≡ p page)
            → list_any (q (names s.to.0)) (range_with_len s.to_page.0 s.pages) ≡ list_any p (range_with_len s.to_page.0 s.pages)
        of_pages s q p e each = λ i. list_any ((ap q e ∙ fun_same (q (r s.to.0)) p each) i) (range_with_len s.to_page.0 s.pages)

    placed_too : (a address length : ℕ) → place n.memory a address length ≡ ok_map (placed_by r) (place m.memory a address length)
    placed_too a address length =
        (λ i. place_of_actor (M.memory.is.page_bytes i) (actor r m.memory n.memory M.memory a i) address length)
        ∙ place_renamed r m.memory.page_bytes (actor_of m.memory a) address length

    page_too : (p : Place) → page_at n.memory (placed_by r p) ≡ page_at m.memory p
    page_too p = λ i. option_map_or (λ (c : Cache). unwrap_or (slice_get c.pages p.page) []) (M.memory.is.caches p.region.cache i) []

    load_row : (a address bytes : ℕ) → W (plain.load_of m.memory a address bytes) (plain.load_of n.memory a address bytes)
    unfolding plain.load_of
    load_row a address bytes = both_ok W m.memory n.memory (placed_by r) _ _ (placed_too a address bytes) (λ x. refused) (λ p. record {
      answer = ap (λ (page : Page). Ok (replies.Bytes (take bytes (drop p.byte page)))) (page_too p);
      next = M;
    })

    written : (p : Place) (bytes : List ℕ) → Matches r (write_at m.memory p bytes) (write_at n.memory (placed_by r p) bytes)
    written p bytes =
        subst (Matches r (write_at m.memory p bytes))
        (λ i. option_map_or (λ c. put_cache n.memory (r k) (put_page p.page (overwrite p.byte bytes (sym (page_too p) i)) c)) (sym (M.memory.is.caches k) i) n.memory)
        (by (cache_of m.memory k) refl)
      where
        k : ℕ
        k = p.region.cache

        change : Cache → Cache
        change = put_page p.page (overwrite p.byte bytes (page_at m.memory p))

        by : (o : Option Cache) → cache_of m.memory k ≡ o → Matches r (option_map_or (λ c. put_cache m.memory k (change c)) o m.memory) (option_map_or (λ c. put_cache n.memory (r k) (change c)) o n.memory)
        by None there = M.memory
        by (Some c) there = with_put r m.memory n.memory M.memory k c (change c) there refl

    store_row : (a address : ℕ) (bytes : List ℕ) → W (plain.store_of m.memory a address bytes h) (plain.store_of n.memory a address bytes g)
    unfolding plain.store_of
    store_row a address bytes = both_ok W m.memory n.memory (placed_by r) _ _ (placed_too a address (length bytes)) (λ x. refused) (λ p.
        both_unless W m.memory n.memory refl refused (λ writable.
        both_unless W m.memory n.memory (denied p.region.cache p.page) refused (λ allowed.
        done _ _ (written p bytes))))

  map_row : (a : ℕ) (p : Mapping) → W (plain.map_of m.memory a p) (plain.map_of n.memory a (renamed_mapping names p))
  unfolding plain.map_of
  map_row a p =
      both_some W m.memory n.memory (map f) _ (actor r m.memory n.memory M.memory a) refused (λ regions alive.
      both_there W m.memory n.memory (named_cache p.extent.cache.0) refused (λ c there.
      both_unless W m.memory n.memory (ap (λ (b : ℕ). not (p.address % b == 0)) M.memory.is.page_bytes) refused (λ aligned.
      both_unless W m.memory n.memory (ap (λ (b : ℕ). nat_lt (2 ^ 48) (p.address + b * p.extent.pages)) M.memory.is.page_bytes) refused (λ low.
      both_unless W m.memory n.memory refl refused (λ inside.
      both_unless W m.memory n.memory (overlap regions) refused (λ apart.
      both_unless W m.memory n.memory (ap (nat_le MOST_MADE) M.memory.is.regions_made) refused (λ few. record {
        answer = ap (λ (k : ℕ). Ok (replies.Region (record { 0 = k + 1 }))) M.memory.is.regions_made;
        next = matched _ _ (with_actors r m.memory n.memory M.memory (set m.memory.actors (a - 1) (Some (insert_region new regions))) _ (m.memory.regions_made + 1) (n.memory.regions_made + 1)
            ((λ i. set (M.memory.is.actors i) (a - 1) (Some (insert_region (record (region_of (M.memory.is.regions_made i + 1) p) { cache = live_name p.extent.cache.0 c there i }) (map f regions))))
            ∙ ap (λ (rs : Actor). set (renamed_actors r m.memory.actors) (a - 1) (Some rs)) (insert_renamed r new regions)
            ∙ sym (map-set (option_map (map f)) m.memory.actors (a - 1) (Some (insert_region new regions))))
            (ap (λ (k : ℕ). k + 1) M.memory.is.regions_made)
            (λ k e. elim (any_set (maps_in k) m.memory.actors (a - 1) (Some (insert_region new regions)) e) [
              | inl q ↦ elim (any_insert (λ (x : Region). x.cache == k) new regions q) [
                | inl s ↦ subst IsSome (sym (ap (cache_of m.memory) (sym (eqb-true p.extent.cache.0 k s)) ∙ there)) refl
                | inr s ↦ M.memory.live k (any_at (maps_in k) m.memory.actors (a - 1) (Some regions) (numbered_place m.memory.actors a regions alive).1 s)
              ]
              | inr q ↦ M.memory.live k q
            ]));
      })))))))
    where
      new : Region
      new = region_of (m.memory.regions_made + 1) p

      overlap : (regions : Actor) → list_any (overlaps n.memory.page_bytes p.address p.extent.pages) (map f regions) ≡ list_any (overlaps m.memory.page_bytes p.address p.extent.pages) regions
      overlap regions =
          ap (λ (b : ℕ). list_any (overlaps b p.address p.extent.pages) (map f regions)) M.memory.is.page_bytes
          ∙ any_map (overlaps m.memory.page_bytes p.address p.extent.pages) (overlaps m.memory.page_bytes p.address p.extent.pages) f (λ x. refl) regions

  -- A new cache

  module _ (j k : ℕ) where
    added : (a b : ReferenceMachine) (c : Cache) → 1 ≤ j → cache_of m.memory j ≡ None → 1 ≤ k → cache_of n.memory k ≡ None → ((seg q : ℕ) → c.segment ≡ Some seg → segment_of m.memory q ≡ Some seg → ⊥)
        → a.memory ≡ m.memory → b.memory ≡ n.memory → b.stored ≡ a.stored → b.openings ≡ a.openings
        → Match (with_pair j k r) (add_cache a j c) (add_cache b k c)
    added a b c some free some_too free_too alone first second stored openings = record {
      memory = subst (λ (x : Machine). Matches (with_pair j k r) (record x { caches = with_cache x.caches j c }) (record b.memory { caches = with_cache b.memory.caches k c })) (sym first)
          (subst (λ (y : Machine). Matches (with_pair j k r) (record m.memory { caches = with_cache m.memory.caches j c }) (record y { caches = with_cache y.caches k c })) (sym second)
          (with_new r m.memory n.memory M.memory j k c some free some_too free_too alone));
      stored = stored;
      openings = openings;
    }

    tells : Ok (replies.Cache (record { 0 = k })) ≡ renamed_answer (with_pair j k r) (Ok (replies.Cache (record { 0 = j })))
    tells = ap (λ (a : ℕ). let x : Answer = Ok (replies.Cache (record { 0 = a })) in x) (sym (pair_at j k r j refl))

    temp_row : (pages : ℕ) → length m.memory.caches < j → length n.memory.caches < k → Fits r (make_temp_of m pages j) (make_temp_of n pages k)
    unfolding make_temp_of
    temp_row pages more more_too =
        subst (λ (b : ℕ). Fits r (make_temp_of m pages j) (reply (replies.Cache (record { 0 = k })) (add_cache n k (temporary b pages)))) (sym M.memory.is.page_bytes)
        (record {
          answer = tells;
          next = added m n (temporary m.memory.page_bytes pages) (omega (arith, more)) (past m.memory.caches j more) (omega (arith, more_too)) (past n.memory.caches k more_too)
              (λ seg q e at. let wrong : None ≡ Some seg = e in cc wrong) refl refl M.stored M.openings;
        })

    module _ (seg : ℕ) where
      abbrev MayBe : ReferenceMachine → ℕ → Answered → Type 0
      MayBe w number a = IfOk a.answer (λ (x : Reply). (1 ≤ number) × (cache_of w.memory number ≡ None))

      opened_too : ((other : ℕ) → (open_one seg n).openings other ≡ (open_one seg m).openings other)
      opened_too other = λ i. cond (other == seg) (M.openings i seg + 1) (M.openings i other)

      anew : (o : Option (List Page)) → number_named m seg ≡ None → MayBe m j (open_anew m seg j o) → MayBe n k (open_anew n seg k o) → Fits r (open_anew m seg j o) (open_anew n seg k o)
      anew None none may may_too = record { answer = refl; next = M }
      anew (Some pages) none may may_too = record {
        answer = tells;
        next = added (open_one seg (take_stored seg m)) (open_one seg (take_stored seg n)) (opened seg pages) may.0 may.1 may_too.0 may_too.1
            (λ s q e at. nowhere seg m.memory q none (at ∙ sym e)) refl refl
            (λ i other. cond (other == seg) None (M.stored i other))
            (λ i other. opened_too other i);
      }

      by_number : (o : Option ℕ) → number_named m seg ≡ o → MayBe m j (open_by m seg j o) → MayBe n k (open_by n seg k (option_map r o)) → Fits r (open_by m seg j o) (open_by n seg k (option_map r o))
      by_number (Some a) e may may_too = record {
        answer = ap (λ (b : ℕ). let x : Answer = Ok (replies.Cache (record { 0 = b })) in x) (sym (pair_at a (r a) r a refl));
        next = subst (λ (s : Renaming). Match s (open_one seg m) (open_one seg n)) (sym (pair_again a r))
            (record { memory = M.memory; stored = M.stored; openings = λ i other. opened_too other i });
      }
      by_number None e may may_too =
          let stored : n.stored seg ≡ m.stored seg = ap (λ (s : Stored). s seg) M.stored in
          subst (λ (o : Option (List Page)). Fits r (open_by m seg j None) (open_anew n seg k o)) (sym stored)
          (anew (m.stored seg) e may (subst (λ (o : Option (List Page)). MayBe n k (open_anew n seg k o)) stored may_too))

      open_row : MayBe m j (open_of m seg j) → MayBe n k (open_of n seg k) → Fits r (open_of m seg j) (open_of n seg k)
      unfolding open_of
      open_row may may_too =
          let number = number_same r m.memory n.memory M.memory seg (number_named m seg) refl in
          subst (λ (o : Option ℕ). Fits r (open_of m seg j) (open_by n seg k o)) (sym number)
          (by_number (number_named m seg) refl may (subst (λ (o : Option ℕ). MayBe n k (open_by n seg k o)) number may_too))

  close_row : (seg : ℕ) → Fits r (close_of m seg) (close_of n seg)
  unfolding close_of
  close_row seg =
      subst (λ (b : Bool). Fits r (close_of m seg) (cond b (reply replies.Done (let_go (close_one seg n))) (refuse n refusals.NotOpen))) (sym (λ i. nat_lt 0 (M.openings i seg)))
      (by (is_open m seg))
    where
      by : (b : Bool) → Fits r (cond b (reply replies.Done (let_go (close_one seg m))) (refuse m refusals.NotOpen)) (cond b (reply replies.Done (let_go (close_one seg n))) (refuse n refusals.NotOpen))
      by true = record {
        answer = refl;
        next = both_let_go r (close_one seg m) (close_one seg n)
            (record { memory = M.memory; stored = M.stored; openings = λ i other. cond (other == seg) (M.openings i seg - 1) (M.openings i other) });
      }
      by false = record { answer = refl; next = M }

  -- the whole table
  pub rows : (command : KeepCommand) (h g : Segments) → g.denied ≡ h.denied → (j k : ℕ)
      → IfOk (answer_of m command h j).answer (λ (x : Reply). MayHave m command j) → IfOk (answer_of n (renamed names command) g k).answer (λ (x : Reply). MayHave n (renamed names command) k)
      → Fits r (answer_of m command h j) (answer_of n (renamed names command) g k)
  unfolding make_temp_of
  rows (commands.Close seg) h g D j k may may_too = close_row seg.0
  rows (commands.Plain plain_commands.MakeActor) h g D j k may may_too = actor_row
  rows (commands.Plain (plain_commands.ExitActor a)) h g D j k may may_too = exit_row a.0
  rows (commands.Plain (plain_commands.MakeTemp pages)) h g D j k may may_too = temp_row j k pages may may_too
  rows (commands.Plain (plain_commands.OpenSegment seg)) h g D j k may may_too = open_row j k seg.0 may may_too
  rows (commands.Plain (plain_commands.Copy span)) h g D j k may may_too = copy_row h g D span
  rows (commands.Plain (plain_commands.Map a mapping)) h g D j k may may_too = map_row a.0 mapping
  rows (commands.Plain (plain_commands.Unmap region)) h g D j k may may_too = unmap_row region.0
  rows (commands.Plain (plain_commands.Load a address bytes)) h g D j k may may_too = load_row h g D a.0 address bytes
  rows (commands.Plain (plain_commands.Store a address piece)) h g D j k may may_too = store_row h g D a.0 address piece
  rows (commands.Plain (plain_commands.PageOut count)) h g D j k may may_too = record { answer = refl; next = M }
  rows (commands.Plain command) h g D j k may may_too = record { answer = refl; next = M }
