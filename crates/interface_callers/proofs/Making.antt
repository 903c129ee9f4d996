-- A temporary cache is made, or there is no room or no memory for it.
use Rattle.std.proofs.Common.{◌≡◌, ◌⊎◌, inl, inr, ℕ, ◌+◌, ◌<◌, Bool, true, false, [], ◌∷◌, ◌++◌, length, map, replicate, Option, Some, None, refl, sym, ap, subst, ◌∙◌, arith}
use Rattle.std.specs.Prelude.{◌||◌, IfNone, Ok, Err, nat_le, nat_lt, option_map}
use Rattle.std.proofs.lemmas.Bool.Decides.{nat_tests}
use Rattle.std.proofs.lemmas.List.{length-map, map-append}
use Rattle.vm_ids.specs.declared.command.Command.TheVariants.{MakeTemp}
use Rattle.vm_ids.specs.declared.refusal.Refusal.TheVariants.{TooMany}
use Rattle.vm_ids.specs.declared.reply.Reply.TheVariants as replies
use Rattle.vm_ids.specs.declared.reply.Trouble.TheVariants as troubles
use Rattle.vm_model.proofs.Outcomes.Lying.{or_parts}
use Rattle.interface_callers.proofs.Words.{Answer, Answered, Cache, CacheId, IsAlike, IsNotRefused, LIVE_PAGES, Machine, MapperCounts, MOST_MADE, Outcome, OutcomeAt, Page, PageForest, Reply, Segments, Trouble, blank, blank_cache, live_pages, make_temp_of, reply, seen_at, temporary, unless, zero_page}
use Rattle.interface_callers.proofs.Answers.{still_err}
use Rattle.interface_callers.proofs.Blanks.{blank_live, emptied, no_segments}
use Rattle.interface_callers.proofs.Lists.{map-replicate}

-- as many caches were made, or pages are live, as may be
abbrev pub is_full : Machine → ℕ → Bool
is_full m pages = nat_le MOST_MADE (length m.caches) || nat_lt LIVE_PAGES (live_pages m + pages)

abbrev pub with_cache : Machine → Cache → Machine
with_cache m c = record m { caches = m.caches ++ Some c ∷ [] }

-- zeros, or without bytes where nothing is told
abbrev pub fresh_page : Option Segments → ℕ → Page
fresh_page (Some h) page_bytes = zero_page page_bytes
fresh_page None page_bytes = []

abbrev pub fresh_cache : Option Segments → ℕ → ℕ → Cache
fresh_cache told page_bytes pages = record { segment = None; pages = replicate pages (fresh_page told page_bytes) }

pub record IsMade (told : Option Segments) (m : Machine) (pages : ℕ) (a : Answer) (n : Machine) : Type 0 where
  pub answer : a ≡ Ok (replies.Cache (record { 0 = length m.caches + 1 }))
  pub next : n ≡ with_cache m (fresh_cache told m.page_bytes pages)
  pub room : is_full m pages ≡ false

pub record IsUnmade (m : Machine) (pages : ℕ) (a : Answer) (n : Machine) : Type 0 where
  pub next : n ≡ m
  pub why : ((a ≡ Err troubles.Memory) × (is_full m pages ≡ false)) ⊎ ((a ≡ Err (troubles.Refused TooMany)) × (is_full m pages ≡ true))

abbrev pub Makes : Option Segments → Machine → ℕ → Answer → Machine → Type 0
Makes told m pages a n = IsMade told m pages a n ⊎ IsUnmade m pages a n

module _ (h : Segments) (m : Machine) (pages : ℕ) where
  abbrev done : Answered
  done = reply (replies.Cache (record { 0 = length m.caches + 1 })) (with_cache m (temporary m.page_bytes pages))

  by_room : (a : Answer) (n : Machine) (full : Bool) → is_full m pages ≡ full → unless full TooMany m done ≡ record { answer = a; next = n } → Makes (Some h) m pages a n
  unfolding unless
  by_room a n true full e = inr (record { next = sym (ap (λ (x : Answered). x.next) e); why = inr (sym (ap (λ (x : Answered). x.answer) e), full) })
  by_room a n false full e = inl (record { answer = sym (ap (λ (x : Answered). x.answer) e); next = sym (ap (λ (x : Answered). x.next) e); room = full })

  by_row : (a : Answer) (n : Machine) → make_temp_of m pages ≡ record { answer = a; next = n } → Makes (Some h) m pages a n
  unfolding make_temp_of
  by_row a n e = by_room a n (is_full m pages) refl e

  lacks_memory : (n : Machine) (full : Bool) → is_full m pages ≡ full → n ≡ m → IsNotRefused (unless full TooMany m done).answer → Makes (Some h) m pages (Err troubles.Memory) n
  unfolding unless
  lacks_memory n true full same on = absurd on
  lacks_memory n false full same on = inr (record { next = same; why = inl (refl, full) })

  by_outcome : (f : Option PageForest) (a : Answer) (n : Machine) (rises : MapperCounts) → Outcome m f (MakeTemp pages) h a n rises → Makes (Some h) m pages a n
  unfolding make_temp_of
  by_outcome f (Ok r) n rises o = by_row (Ok r) n o
  by_outcome f (Err (troubles.Refused r)) n rises o = by_row (Err (troubles.Refused r)) n o
  by_outcome f (Err (troubles.Mapper at)) n rises o = absurd o.2
  by_outcome f (Err troubles.Memory) n rises o = lacks_memory n (is_full m pages) refl o.0 o.2

-- the new cache without its bytes
blank_fresh : (h : Segments) (page_bytes pages : ℕ) → blank_cache (fresh_cache (Some h) page_bytes pages) ≡ fresh_cache None page_bytes pages
blank_fresh h page_bytes pages = λ i. record { segment = None; pages = map-replicate emptied pages (zero_page page_bytes) i }

pub full_blank : (w : Machine) (pages : ℕ) → is_full (blank w) pages ≡ is_full w pages
full_blank w pages = λ i. nat_le MOST_MADE (length-map w.caches (option_map blank_cache) i) || nat_lt LIVE_PAGES (blank_live w i + pages)

cache_alike : (number : ℕ) (a b : Answer) → a ≡ Ok (replies.Cache (record { 0 = number })) → IsAlike a b → b ≡ Ok (replies.Cache (record { 0 = number }))
cache_alike number a b e h = sym (subst (λ (x : Answer). IsAlike x b) e h)

made_blank : (h : Segments) (w v : Machine) (pages : ℕ) (a b : Answer) → IsAlike b a → Makes (Some h) w pages b v → Makes None (blank w) pages a (blank v)
made_blank h w v pages a b alike (inl t) = inl (record {
  answer = cache_alike (length w.caches + 1) b a t.answer alike ∙ ap (λ (n : ℕ). let x : Answer = Ok (replies.Cache (record { 0 = n + 1 })) in x) (sym (length-map w.caches (option_map blank_cache)));
  next = ap blank t.next
      ∙ (λ i. record (blank w) { caches = map-append (option_map blank_cache) w.caches (Some (fresh_cache (Some h) w.page_bytes pages) ∷ []) i })
      ∙ ap (with_cache (blank w)) (blank_fresh h w.page_bytes pages);
  room = full_blank w pages ∙ t.room;
})
made_blank h w v pages a b alike (inr l) = inr (record {
  next = ap blank l.next;
  why = elim l.why [
    | inl e ↦ inl (still_err troubles.Memory b a e.0 alike, full_blank w pages ∙ e.1)
    | inr e ↦ inr (still_err (troubles.Refused TooMany) b a e.0 alike, full_blank w pages ∙ e.1)
  ];
})

pub makes_at : (told : Option Segments) (m : Machine) (f : Option PageForest) (pages : ℕ) (a : Answer) (n : Machine) (rises : MapperCounts) → OutcomeAt told m f (MakeTemp pages) a n rises → Makes told m pages a n
makes_at (Some h) m f pages a n rises o = by_outcome h m pages f a n rises o
makes_at None m f pages a n rises o =
    subst (λ (x : Machine). Makes None x pages a n) (sym o.is) (subst (Makes None (blank o.whole) pages a) (sym o.is_next)
    (made_blank o.segments o.whole o.whole_next pages a o.whole_answer o.alike (by_outcome o.segments o.whole pages f o.whole_answer o.whole_next rises o.outcome)))

-- It was made, or it wasn't

pub made_at : (told : Option Segments) (m : Machine) (f : Option PageForest) (pages : ℕ) (r : Reply) (n : Machine) (rises : MapperCounts) → OutcomeAt told m f (MakeTemp pages) (Ok r) n rises → IsMade told m pages (Ok r) n
made_at told m f pages r n rises o = elim (makes_at told m f pages (Ok r) n rises o) [
  | inl k ↦ k
  | inr l ↦ elim l.why [
    | inl e ↦ absurd (let wrong : Ok r ≡ Err troubles.Memory = e.0 in cc wrong)
    | inr e ↦ absurd (let wrong : Ok r ≡ Err (troubles.Refused TooMany) = e.0 in cc wrong)
  ]
]

pub unmade_at : (told : Option Segments) (m : Machine) (f : Option PageForest) (pages : ℕ) (t : Trouble) (n : Machine) (rises : MapperCounts) → OutcomeAt told m f (MakeTemp pages) (Err t) n rises → IsUnmade m pages (Err t) n
unmade_at told m f pages t n rises o = elim (makes_at told m f pages (Err t) n rises o) [
  | inl k ↦ absurd (let wrong : Err t ≡ Ok (replies.Cache (record { 0 = length m.caches + 1 })) = k.answer in cc wrong)
  | inr l ↦ l
]

pub few_caches : (m : Machine) (pages : ℕ) → is_full m pages ≡ false → length m.caches < MOST_MADE
few_caches m pages room = let some : nat_le MOST_MADE (length m.caches) ≡ false = (or_parts (nat_le MOST_MADE (length m.caches)) _ room).0 in grind (arith, nat_tests)

-- its number, and how many pages it has
pub made_number : (told : Option Segments) (m n : Machine) (pages : ℕ) (cache : CacheId) → IsMade told m pages (Ok (replies.Cache cache)) n → cache.0 ≡ length m.caches + 1
made_number told m n pages cache made =
    let both : Ok (replies.Cache cache) ≡ Ok (replies.Cache (record { 0 = length m.caches + 1 })) = made.answer in
    let reply_is : replies.Cache cache ≡ replies.Cache (record { 0 = length m.caches + 1 }) = cc both in
    let same : cache ≡ (let k : CacheId = record { 0 = length m.caches + 1 } in k) = cc reply_is in
    ap (λ (k : CacheId). k.0) same

-- what is seen of the machine then
pub seen_made : (told : Option Segments) (m n : Machine) (pages : ℕ) → IfNone told (m ≡ blank m) → n ≡ with_cache m (fresh_cache told m.page_bytes pages) → n ≡ seen_at told (with_cache m (temporary m.page_bytes pages))
seen_made (Some h) m n pages bare next = next
seen_made None m n pages bare next = next ∙ (λ i. record m {
  caches = (ap (λ (x : Machine). x.caches ++ Some (fresh_cache None m.page_bytes pages) ∷ []) bare
      ∙ ap (λ (c : Cache). map (option_map blank_cache) m.caches ++ Some c ∷ []) (sym (blank_fresh no_segments m.page_bytes pages))
      ∙ sym (map-append (option_map blank_cache) m.caches (Some (temporary m.page_bytes pages) ∷ []))) i;
})
