-- Caches are made.
use Rattle.std.proofs.Common.{◌≡◌, ℕ, zero, suc, ◌+◌, ◌-◌, ◌<◌, ◌≤◌, true, false, List, [], ◌∷◌, ◌++◌, length, map, replicate, Option, Some, None, refl, sym, ap, subst, ◌∙◌, arith, inl, inr}
use Rattle.std.specs.Prelude.{OnErr, OnOk, Result, Ok, Err, nat_le, nat_lt, option_map, slice_get, sum_by}
use Rattle.std.proofs.lemmas.Bool.{cases_eq}
use Rattle.std.proofs.lemmas.Bool.Decides.{nat_tests}
use Rattle.std.proofs.lemmas.List.{length-append, length-map, length-replicate, map_push}
use Rattle.std.proofs.lemmas.List.Elements.{All-append, All-cons, All-nil, All-replicate}
use Rattle.std.proofs.lemmas.List.Sums.{sum_by-cons, sum_by_push}
use Rattle.vm_ids.specs.Counting.{no_counts}
use Rattle.vm_ids.specs.Held.{Segments, segments_in, segments_of}
use Rattle.vm_ids.specs.declared.command.Command.{Command}
use Rattle.vm_ids.specs.declared.command.Command.TheVariants as commands
use Rattle.vm_ids.specs.declared.numbers.CacheId.{CacheId}
use Rattle.vm_ids.specs.declared.numbers.SegId.{SegId}
use Rattle.vm_ids.specs.declared.reply.NoMemory.{NoMemory}
use Rattle.vm_ids.specs.declared.refusal.Refusal.TheVariants as refusals
use Rattle.vm_ids.specs.declared.reply.Reply.{Reply}
use Rattle.vm_ids.specs.declared.reply.Reply.TheVariants as replies
use Rattle.vm_ids.specs.declared.reply.Trouble.TheVariants as troubles
use Rattle.vm_model.specs.declared.limits.TheConstants.{LIVE_PAGES, MOST_MADE}
use Rattle.vm_model.specs.Answering as answering
use Rattle.vm_model.specs.Answering.{Answered, make_temp_of, refuse, reply, unless}
use Rattle.vm_model.specs.Asking.{ReachesMapper}
use Rattle.vm_model.specs.Machine as model
use Rattle.vm_model.specs.Machine.{Machine, live_pages, numbered, pages_in, zero_page}
use Rattle.vm_model.specs.Outcome as outcomes
use Rattle.vm_model.specs.Outcome.{PlainOutcome, seen_at}
use Rattle.vm_model.specs.Synchronised.{IsSynchronised}
use Rattle.vm_model.proofs.Parts.ListParts.{numbered_past, numbered_push, numbered_pushed}
use Rattle.contexts.specs.Actors.{Actors, machine_with}
use Rattle.contexts.proofs.Placing.{right_weaker}
use Rattle.gmi_calls.specs.Calling.{CallDone}
use Rattle.gmi_calls.proofs.Called.{answer_each, eager_done}
use Rattle.gmi_calls.proofs.Still.{made_still}
use Rattle.flat_mm.specs.Manager.{AreKept, IsKept, IsManagerSound, Manager, caches_in, flat, machine_in, plain, room_of, sizes_in}
use Rattle.flat_mm.specs.Store.{AreWhole, Cache, Page, Store, live_in, size_of, temporary, zeros}
use Rattle.flat_mm.proofs.Acting.{NeedsMade, whole_machine}
use Rattle.flat_mm.proofs.Calls.{flat_done, seen_live}

-- How many pages there are

plain_size : (o : Option Cache) → pages_in (option_map plain o) ≡ size_of o
plain_size None = refl
plain_size (Some c) = length-map c.pages (λ (p : Page). p.bytes)

pub plain_live : (cs : List (Option Cache)) → sum_by pages_in (map (option_map plain) cs) ≡ live_in cs
plain_live [] = refl
plain_live (c ∷ cs) = sum_by-cons pages_in (option_map plain c) (map (option_map plain) cs) ∙ (λ i. plain_size c i + plain_live cs i) ∙ sym (sum_by-cons size_of c cs)

pub made_many : (cs : List (Option Cache)) → length (map (option_map plain) cs) ≡ length cs
made_many cs = length-map cs (option_map plain)

-- A cache more

plain_zeros : (b n : ℕ) → map (λ (p : Page). p.bytes) (replicate n (zeros b)) ≡ replicate n (zero_page b)
plain_zeros b zero = refl
plain_zeros b (suc n) = ap (λ ps. zero_page b ∷ ps) (plain_zeros b n)

pub plain_temporary : (b n : ℕ) → plain (temporary b n) ≡ answering.temporary b n
plain_temporary b n = ap (λ (ps : List model.Page). let c : model.Cache = record { segment = None; pages = ps } in c) (plain_zeros b n)

pub caches_more : (cs : List (Option Cache)) (c : Cache) → map (option_map plain) (cs ++ Some c ∷ []) ≡ map (option_map plain) cs ++ Some (plain c) ∷ []
caches_more cs c = map_push (option_map plain) cs (Some c)

sized_more : (cs : List (Option Cache)) (c : Option Cache) (n count : ℕ) → option_map (λ (c : Cache). length c.pages) (numbered cs n) ≡ Some count → option_map (λ (c : Cache). length c.pages) (numbered (cs ++ c ∷ []) n) ≡ Some count
sized_more cs c n count e = elim (cases_eq n (length cs + 1)) [
  | inl last ↦ absurd (let none = ap (option_map (λ (c : Cache). length c.pages)) (numbered_past cs n last) in cc (none, e))
  | inr other ↦ ap (option_map (λ (c : Cache). length c.pages)) (numbered_push cs c n other) ∙ e
]

-- the manager is sound with one more cache
pub sound_more : (s u : Store) (t : Actors) (n : ℕ) (c : Cache) → IsManagerSound s t n → AreWhole u → u.loose ≡ [] → u.page_bytes ≡ s.page_bytes → u.caches ≡ s.caches ++ Some c ∷ [] → length s.caches < MOST_MADE → IsManagerSound u t n
sound_more s u t n c k whole settled page is few = record {
  whole = whole;
  settled = settled;
  page = k.page ∙ sym page;
  made = omega (arith, few, ap length is, length-append s.caches (Some c ∷ []));
  counted = k.counted;
  placed = right_weaker (sizes_in s) (sizes_in u) t (λ m count e. ap (λ (cs : List (Option Cache)). option_map (λ (c : Cache). length c.pages) (numbered cs m)) is ∙ sized_more s.caches (Some c) m count e) k.placed;
}

-- and its pages are kept, where those of that cache are
pub kept_more : (h : Segments) (cs : List (Option Cache)) (c : Cache) → AreKept h cs → ((page : ℕ) (seg : SegId) (p : Page) → c.segment ≡ Some seg → slice_get c.pages page ≡ Some p → IsKept h seg.0 page p) → AreKept h (cs ++ Some c ∷ [])
kept_more h cs c kept new = λ number page d seg p there named at. elim (cases_eq number (length cs + 1)) [
  | inl last ↦ (
      let e : Some c ≡ Some d = sym (numbered_pushed cs (Some c) number last) ∙ there in
      let same : c ≡ d = cc e in
      new page seg p (ap (λ (x : Cache). x.segment) same ∙ named) (ap (λ (x : Cache). slice_get x.pages page) same ∙ at))
  | inr other ↦ kept number page d seg p (sym (numbered_push cs (Some c) number other) ∙ there) named at
]

-- The rows

module _ (m : Machine) (pages : ℕ) where
  pub temp_many : nat_le MOST_MADE (length m.caches) ≡ true → make_temp_of m pages ≡ refuse m refusals.TooMany
  unfolding make_temp_of unless
  temp_many e = rw e refl

  pub temp_large : nat_le MOST_MADE (length m.caches) ≡ false → nat_lt LIVE_PAGES (live_pages m + pages) ≡ true → make_temp_of m pages ≡ refuse m refusals.TooMany
  unfolding make_temp_of unless
  temp_large e f = rw (e, f) refl

  abbrev pub temp_next : Machine
  temp_next = record m { caches = m.caches ++ Some (answering.temporary m.page_bytes pages) ∷ [] }

  pub temp_row : nat_le MOST_MADE (length m.caches) ≡ false → nat_lt LIVE_PAGES (live_pages m + pages) ≡ false → make_temp_of m pages ≡ reply (replies.Cache (record { 0 = length m.caches + 1 })) temp_next
  unfolding make_temp_of unless
  temp_row e f = rw (e, f) refl

  pub temp_live : live_pages temp_next ≡ live_pages m + pages
  temp_live = sum_by_push pages_in m.caches (Some (answering.temporary m.page_bytes pages)) ∙ ap (λ n. live_pages m + n) (length-replicate pages (zero_page m.page_bytes))

-- A temporary cache

not_most : (n : ℕ) → nat_le MOST_MADE n ≡ false → n < MOST_MADE
not_most n e = grind (arith, nat_tests)

pub few_made : (s : Store) → nat_le MOST_MADE (length (caches_in s)) ≡ false → length s.caches < MOST_MADE
few_made s e = omega (arith, not_most (length (caches_in s)) e, made_many s.caches)

abbrev pub with_temporary : Store → ℕ → Store
with_temporary s pages = record s { free = s.free - pages; caches = s.caches ++ Some (temporary s.page_bytes pages) ∷ [] }

pub made_sound : (s u : Store) (t : Actors) (n : ℕ) → IsManagerSound s t n → (pages : ℕ) (result : Result CacheId NoMemory) → OnOk result (u ≡ with_temporary s pages) → OnErr result (u ≡ s) → OnOk result (AreWhole u) → length s.caches < MOST_MADE → IsManagerSound u t n
made_sound s u t n k pages (Ok cache) ok err whole few =
    sound_more s u t n (temporary s.page_bytes pages) k whole (ap (λ (x : Store). x.loose) ok ∙ k.settled) (ap (λ (x : Store). x.page_bytes) ok) (ap (λ (x : Store). x.caches) ok) few
made_sound s u t n k pages (Err e) ok err whole few = subst (λ (x : Store). IsManagerSound x t n) (sym err) k

module _ (s u : Store) (t : Actors) (n : ℕ) (k : IsManagerSound s t n) (p : Manager) (view : (let q : Manager = record { store = s; actors = t } in q) ≡ p) (pages : ℕ) where
  abbrev old : Manager
  old = record { store = s; actors = t }

  abbrev new : Manager
  new = record { store = u; actors = t }

  at_old : (P : Machine → Type 0) → P (machine_in p) → P (machine_in old)
  at_old P h = subst (λ (x : Manager). P (machine_in x)) (sym view) h

  pub made_call : (cache : CacheId) → cache.0 ≡ length s.caches + 1 → u ≡ with_temporary s pages → AreWhole u → nat_le MOST_MADE (length (machine_in p).caches) ≡ false → nat_lt LIVE_PAGES (live_pages (machine_in p) + pages) ≡ false → pages ≤ room_of old
      → CallDone flat p (commands.MakeTemp pages) (Ok (replies.Cache cache)) new
  made_call cache number is whole many large room =
      let m = machine_in old in
      let answer : answering.Answer = Ok (replies.Cache cache) in
      let page : t.page_bytes ≡ u.page_bytes = k.page ∙ sym (ap (λ (x : Store). x.page_bytes) is) in
      let next : machine_in new ≡ temp_next m pages =
      (λ i. machine_with (ap caches_in is i) (ap (λ (x : Store). x.frames) is i) t)
      ∙ ap (λ (cs : List (Option model.Cache)). machine_with cs s.frames t) (caches_more s.caches (temporary s.page_bytes pages) ∙ ap (λ (c : model.Cache). caches_in s ++ Some c ∷ []) (plain_temporary s.page_bytes pages ∙ ap (λ b. answering.temporary b pages) (sym k.page))) in
      let row : make_temp_of m pages ≡ reply (replies.Cache cache) (machine_in new) =
      temp_row m pages (at_old (λ x. nat_le MOST_MADE (length x.caches) ≡ false) many) (at_old (λ x. nat_lt LIVE_PAGES (live_pages x + pages) ≡ false) large)
      ∙ (λ i. reply (replies.Cache (record { 0 = (let e : length (caches_in s) + 1 ≡ cache.0 = omega (arith, number, made_many s.caches) in e) i })) (sym next i)) in
      let live : live_pages (machine_in new) ≡ live_pages m + pages = ap live_pages next ∙ temp_live m pages in
      subst (λ (x : Manager). CallDone flat x (commands.MakeTemp pages) answer new) view
      (flat_done old new (commands.MakeTemp pages) answer (λ told now. omega (arith, seen_live told m, seen_live now (machine_in new), live, room))
      (λ h kept. subst (AreKept (segments_in h)) (sym (ap (λ (x : Store). x.caches) is)) (kept_more (segments_in h) s.caches (temporary s.page_bytes pages) kept (λ page seg q named at. absurd (cc named))))
      (eager_done m (machine_in new) (commands.MakeTemp pages) answer refl (whole_machine u t page whole) (λ h. row) (λ h. tt)))

  pub temp_lacks : u ≡ s → nat_le MOST_MADE (length (machine_in p).caches) ≡ false → nat_lt LIVE_PAGES (live_pages (machine_in p) + pages) ≡ false → CallDone flat p (commands.MakeTemp pages) (Err troubles.Memory) new
  temp_lacks is many large =
      let m = machine_in old in
      let row = temp_row m pages (at_old (λ x. nat_le MOST_MADE (length x.caches) ≡ false) many) (at_old (λ x. nat_lt LIVE_PAGES (live_pages x + pages) ≡ false) large) in
      subst (λ (x : Store). CallDone flat p (commands.MakeTemp pages) (Err troubles.Memory) (record { store = x; actors = t })) (sym is)
      (subst (λ (x : Manager). CallDone flat x (commands.MakeTemp pages) (Err troubles.Memory) old) view
      (flat_done old old (commands.MakeTemp pages) (Err troubles.Memory) (λ told now. tt) (λ h kept. kept)
      (eager_done m m (commands.MakeTemp pages) (Err troubles.Memory) refl (whole_machine s t k.page k.whole) (λ h. (refl, tt, subst (λ (a : Answered). outcomes.IsNotRefused a.answer) (sym row) tt)) (λ h. tt))))

-- Want of room

-- A call that is refused for want of room alone.
pub full_done : (p : Manager) (command : Command) (r : Reply) (next : Machine) → ReachesMapper command no_counts → NeedsMade command → ((m : Machine) (h : Option Segments) (a : answering.Answer) → IsSynchronised m h command a)
    → outcomes.HasWholePages next → PlainOutcome (machine_in p) command (Ok r) next → room_of p < live_pages next - live_pages (machine_in p)
    → CallDone flat p command (Err (troubles.Refused refusals.Full)) p
full_done p command r next reaches needs said whole outcome more = record {
  valid = λ h v. v;
  answers = λ h v. record {
    reply = r;
    next = seen_at h next;
    outcome = (answer_each h (machine_in p) next command (Ok r) reaches v.ready whole outcome (said (machine_in p) (segments_of h) (Ok r))).outcome;
    more = omega (arith, needs (seen_at h (machine_in p)) (seen_at h next), seen_live h (machine_in p), seen_live h next, more);
    same = refl;
    no_push = refl;
  };
  made = λ h v. made_still (seen_at h (machine_in p)) command (Err (troubles.Refused refusals.Full)) (seen_at h (machine_in p)) 0;
  room = refl;
}

-- as of a temporary cache
pub temp_full : (s : Store) (t : Actors) (n : ℕ) → IsManagerSound s t n → (p : Manager) → (let q : Manager = record { store = s; actors = t } in q) ≡ p → (pages : ℕ) → nat_le MOST_MADE (length (machine_in p).caches) ≡ false → nat_lt LIVE_PAGES (live_pages (machine_in p) + pages) ≡ false → room_of p < pages
    → CallDone flat p (commands.MakeTemp pages) (Err (troubles.Refused refusals.Full)) p
temp_full s t n k p view pages many large more =
    let m = machine_in p in
    full_done p (commands.MakeTemp pages) (replies.Cache (record { 0 = length m.caches + 1 })) (temp_next m pages) refl (λ m next. refl) (λ m h a. tt)
    (All-append (outcomes.IsWhole m.page_bytes) m.caches (Some (answering.temporary m.page_bytes pages) ∷ []) (subst (λ (x : Manager). outcomes.HasWholePages (machine_in x)) view (whole_machine s t k.page k.whole))
    (All-cons (outcomes.IsWhole m.page_bytes) (Some (answering.temporary m.page_bytes pages)) [] (All-replicate (λ (b : List ℕ). length b ≡ m.page_bytes) pages (zero_page m.page_bytes) (length-replicate m.page_bytes 0)) (All-nil (outcomes.IsWhole m.page_bytes))))
    (λ h. temp_row m pages many large)
    (omega (arith, temp_live m pages, more))
