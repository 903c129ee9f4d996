-- An image is found among those that are there, or its segment is opened; and whether it has enough
-- pages is asked.
use Rattle.std.proofs.Common.{◌≡◌, ◌≢◌, ◌⊎◌, inl, inr, ◌==◌, ℕ, zero, suc, ◌+◌, ◌-◌, ◌≤◌, ◌<◌, Bool, true, false, cond, List, [], ◌∷◌, ◌++◌, length, map, Option, Some, None, refl, sym, ap, subst, ◌∙◌, arith}
use Rattle.std.specs.Prelude.{Ok, Err, Result, is_some, nat_lt, option_map, slice_get}
use Rattle.std.specs.Bool.{IsTrue}
use Rattle.std.specs.FinMap.{get}
use Rattle.std.proofs.lemmas.Bool.Decides.{nat_tests}
use Rattle.std.proofs.lemmas.List.{length-map}
use Rattle.vm_ids.specs.Forest.Commands.{page_name}
use Rattle.vm_ids.specs.Forest.Reading.{chain_of}
use Rattle.vm_ids.specs.declared.command.Command.TheVariants as vm_commands
use Rattle.vm_ids.specs.declared.refusal.Refusal.TheVariants as refusals
use Rattle.vm_ids.specs.declared.reply.FaultAt.TheVariants as faults
use Rattle.vm_ids.specs.declared.reply.Reply.TheVariants as replies
use Rattle.vm_ids.specs.declared.reply.Trouble.TheVariants as troubles
use Rattle.vm_model.specs.Answering as vm
use Rattle.vm_model.specs.Run as vm_run
use Rattle.vm_model.proofs.Parts.Lists.{numbered-map}
use Rattle.vm_model.proofs.Outcomes.Lying.{not_past}
use Rattle.gmi_calls.specs.Room.{AnswerWithin}
use Rattle.std.proofs.lemmas.Bool.{eqb-true}
use Rattle.interface_callers.proofs.Words.{Answer, AnswersWithin, Cache, CacheId, GhostsOfGmi, Held, IsAlike, Machine, MapperCounts, MOST_MADE, Outcome, OutcomeAt, Page, PageForest, PageNo, Reply, SegId, Segments, Trouble, blank, blank_cache, cache_named, cache_of, forest_shown, meanings_of, no_counts, opened, segments_of}
use Rattle.interface_callers.proofs.Naming.{named_blank}
use Rattle.mix_process.specs.Outcome.{usage_of, would_pass}
use Rattle.mix_process.specs.ProcessMachine.{image_in}
use Rattle.mix_process.specs.Seen.{cache_pages, image_seen}
use Rattle.mix_process.specs.Starting.{Checks, HoldsIn, LacksImage, as_bad_image, image_for, usage_to_open}
use Rattle.mix_process.specs.declared.mix.Image.{Image}
use Rattle.mix_process.proofs.Definition.Limits.{caches_past, each_some, each_unless, pages_past, passed_next}
use Rattle.mix_process.proofs.Calling.UntoldSteps.{usage_blank}

-- Images in lists

is_other : (a b : ℕ) → (a == b) ≡ false → a ≢ b
is_other a b e same = grind (arith, nat_tests)

pub same_is : (a b : ℕ) → a ≡ b → (a == b) ≡ true
same_is a b same = grind (arith, nat_tests)

pub image_there : (images : List Image) (seg : ℕ) (image : Image) → image_for images seg ≡ Some image → (i : ℕ) × (slice_get images i ≡ Some image) × (image.seg.0 ≡ seg)
image_there [] seg image e = absurd (cc e)
image_there (x ∷ xs) seg image e = by (x.seg.0 == seg) (image_there xs seg image) refl e
  where
    by : (b : Bool) → (image_for xs seg ≡ Some image → (i : ℕ) × (slice_get xs i ≡ Some image) × (image.seg.0 ≡ seg)) → (x.seg.0 == seg) ≡ b → cond b (Some x) (image_for xs seg) ≡ Some image → (i : ℕ) × (slice_get (x ∷ xs) i ≡ Some image) × (image.seg.0 ≡ seg)
    by true rest s e = let same : x ≡ image = cc e in (0, e, ap (λ (y : Image). y.seg.0) (sym same) ∙ eqb-true x.seg.0 seg s)
    by false rest s e = let r = rest e in (suc r.0, r.1, r.2)

-- where there is none, none of them is of the segment
pub image_none : (images : List Image) (seg : ℕ) → image_for images seg ≡ None → (i : ℕ) (image : Image) → slice_get images i ≡ Some image → image.seg.0 ≢ seg
image_none [] seg e i image f = absurd (cc f)
image_none (x ∷ xs) seg e i image f = by (x.seg.0 == seg) (image_none xs seg) refl e i f
  where
    by : (b : Bool) → (image_for xs seg ≡ None → (i : ℕ) (image : Image) → slice_get xs i ≡ Some image → image.seg.0 ≢ seg) → (x.seg.0 == seg) ≡ b → cond b (Some x) (image_for xs seg) ≡ None → (i : ℕ) → slice_get (x ∷ xs) i ≡ Some image → image.seg.0 ≢ seg
    by true rest s e i f = absurd (cc e)
    by false rest s e zero f = let same : x ≡ image = cc f in λ q. is_other x.seg.0 seg s (ap (λ (y : Image). y.seg.0) same ∙ q)
    by false rest s e (suc i) f = rest e i image f

-- one that stands behind is found where there was none
pub image_last : (images : List Image) (seg : ℕ) (image : Image) → image.seg.0 ≡ seg → image_for images seg ≡ None → image_for (images ++ image ∷ []) seg ≡ Some image
image_last [] seg image is e = ap (λ (b : Bool). cond b (Some image) None) (same_is image.seg.0 seg is)
image_last (x ∷ xs) seg image is e = by (x.seg.0 == seg) (image_last xs seg image is) e
  where
    by : (b : Bool) → (image_for xs seg ≡ None → image_for (xs ++ image ∷ []) seg ≡ Some image) → cond b (Some x) (image_for xs seg) ≡ None → cond b (Some x) (image_for (xs ++ image ∷ []) seg) ≡ Some image
    by true rest e = absurd (cc e)
    by false rest e = rest e

-- what the machine of processes has of the segment
pub image_seen_for : (m : Machine) (images : List Image) (seg : ℕ) → image_in (map (image_seen m) images) seg ≡ option_map (λ (i : Image). cache_pages m i.cache.0) (image_for images seg)
image_seen_for m [] seg = refl
image_seen_for m (x ∷ xs) seg = by (x.seg.0 == seg) (image_seen_for m xs seg)
  where
    by : (b : Bool) → image_in (map (image_seen m) xs) seg ≡ option_map (λ (i : Image). cache_pages m i.cache.0) (image_for xs seg) → cond b (Some (cache_pages m x.cache.0)) (image_in (map (image_seen m) xs) seg) ≡ option_map (λ (i : Image). cache_pages m i.cache.0) (cond b (Some x) (image_for xs seg))
    by true rest = refl
    by false rest = rest

-- What an opening comes to

-- A cache of the segment.
pub record HasOpened (told : Option Segments) (m : Machine) (seg : ℕ) (answer : Answer) (next : Machine) : Type 0 where
  pub cache : Cache
  pub named : cache.segment ≡ Some seg
  pub holds : HoldsIn told seg (Some cache.pages)
  pub answer_is : answer ≡ Ok (replies.Cache (record { 0 = length m.caches + 1 }))
  pub next_is : next ≡ record m { caches = m.caches ++ Some cache ∷ [] }

-- Nothing, and why.
pub record HasNotOpened (told : Option Segments) (m : Machine) (seg : ℕ) (rises : MapperCounts) (answer : Answer) (next : Machine) : Type 0 where
  pub trouble : Trouble
  pub answer_is : answer ≡ Err trouble
  pub next_is : next ≡ m
  pub why : LacksImage m told seg rises trouble

abbrev pub Opening : Option Segments → Machine → ℕ → MapperCounts → Answer → Machine → Type 0
Opening told m seg rises answer next = HasOpened told m seg answer next ⊎ HasNotOpened told m seg rises answer next

refused_open : (told : Option Segments) (m : Machine) (seg : ℕ) (rises : MapperCounts) (trouble : Trouble) → LacksImage m told seg rises trouble → Opening told m seg rises (Err trouble) m
refused_open told m seg rises trouble why = inr (record { trouble = trouble; answer_is = refl; next_is = refl; why = why })

contradicts : (b : Bool) → b ≡ true → b ≡ false → ⊥
contradicts b e f = absurd (cc (e, f))

open_row : (told : Option Segments) (m : Machine) (seg : ℕ) (held : Option (List Page)) (rises : MapperCounts) → HoldsIn told seg held → is_some (cache_named m.caches seg) ≡ false
    → (let a = vm.open_of m seg held in Opening told m seg rises a.answer a.next)
unfolding vm.open_of
open_row told m seg held rises holds free =
    let P = λ (a : vm.Answered). Opening told m seg rises a.answer a.next in
    each_unless P _ _ m _ (λ e. absurd (contradicts _ e free)) (λ e.
    each_unless P _ _ m _ (λ full. refused_open told m seg rises (troubles.Refused refusals.TooMany) (held, holds, caches_past (usage_of m) (usage_to_open held) (passed_next MOST_MADE (length m.caches) full))) (λ few.
    each_some P held _ m _ (λ none. refused_open told m seg rises (troubles.Refused refusals.NoSegment) (subst (HoldsIn told seg) none holds)) (λ pages some.
    each_unless P _ _ m _ (λ many. refused_open told m seg rises (troubles.Refused refusals.TooMany) (Some pages, subst (HoldsIn told seg) some holds, pages_past (usage_of m) (usage_to_open (Some pages)) many)) (λ room.
    inl (record { cache = opened seg pages; named = refl; holds = subst (HoldsIn told seg) some holds; answer_is = refl; next_is = refl })))))

opened_row : (told : Option Segments) (m : Machine) (seg : ℕ) (held : Option (List Page)) (rises : MapperCounts) → HoldsIn told seg held → is_some (cache_named m.caches seg) ≡ false
    → (a : Answer) (next : Machine) → vm.open_of m seg held ≡ record { answer = a; next = next } → Opening told m seg rises a next
opened_row told m seg held rises holds free a next e = subst (λ (x : vm.Answered). Opening told m seg rises x.answer x.next) e (open_row told m seg held rises holds free)

opening_outcome : (told : Option Segments) (m : Machine) (f : Option PageForest) (h : Segments) (seg : SegId) → HoldsIn told seg.0 (get h.pages seg.0) → is_some (cache_named m.caches seg.0) ≡ false
    → (a : Answer) (next : Machine) (rises : MapperCounts) → Outcome m f (vm_commands.OpenSegment seg) h a next rises → Opening told m seg.0 rises a next
opening_outcome told m f h seg holds free (Ok r) next rises o = opened_row told m seg.0 (get h.pages seg.0) rises holds free (Ok r) next o
opening_outcome told m f h seg holds free (Err (troubles.Refused r)) next rises o = opened_row told m seg.0 (get h.pages seg.0) rises holds free (Err (troubles.Refused r)) next o
opening_outcome told m f h seg holds free (Err (troubles.Mapper faults.Opening)) next rises o = inr (record { trouble = troubles.Mapper faults.Opening; answer_is = refl; next_is = o.0; why = (o.1, o.2) })
opening_outcome told m f h seg holds free (Err (troubles.Mapper at)) next rises o = absurd o.2
opening_outcome told m f h seg holds free (Err troubles.Memory) next rises o = inr (record { trouble = troubles.Memory; answer_is = refl; next_is = o.0; why = tt })

-- Without bytes

pub map_snoc : {A B : Type 0} (f : A → B) (xs : List A) (x : A) → map f (xs ++ x ∷ []) ≡ map f xs ++ f x ∷ []
map_snoc f [] x = refl
map_snoc f (y ∷ xs) x = λ i. f y ∷ map_snoc f xs x i

lacks_blank : (w : Machine) (seg : ℕ) (rises : MapperCounts) (t : Trouble) → LacksImage w None seg rises t → LacksImage (blank w) None seg rises t
lacks_blank w seg rises troubles.Memory h = tt
lacks_blank w seg rises (troubles.Refused refusals.TooMany) h = (h.0, tt, subst (λ u. IsTrue (would_pass u (usage_to_open h.0))) (sym (usage_blank w)) h.2)
lacks_blank w seg rises (troubles.Refused refusals.NoSegment) h = tt
lacks_blank w seg rises (troubles.Mapper faults.Opening) h = (h.0, omega (arith, h.1, length-map w.caches (option_map blank_cache)))
lacks_blank w seg rises t h = absurd h

opening_blank : (w whole_next : Machine) (seg : ℕ) (rises : MapperCounts) (whole a : Answer) → IsAlike whole a → Opening None w seg rises whole whole_next → Opening None (blank w) seg rises a (blank whole_next)
opening_blank w whole_next seg rises whole a alike (inl h) = inl (record {
  cache = blank_cache h.cache;
  named = h.named;
  holds = tt;
  answer_is = sym (subst (λ (x : Answer). IsAlike x a) h.answer_is alike) ∙ ap (λ n. Ok (replies.Cache (record { 0 = n + 1 }))) (sym (length-map w.caches (option_map blank_cache)));
  next_is = ap blank h.next_is ∙ (λ i. record (blank w) { caches = map_snoc (option_map blank_cache) w.caches (Some h.cache) i });
})
opening_blank w whole_next seg rises whole a alike (inr h) = inr (record {
  trouble = h.trouble;
  answer_is = sym (subst (λ (x : Answer). IsAlike x a) h.answer_is alike);
  next_is = ap blank h.next_is;
  why = lacks_blank w seg rises h.trouble h.why;
})

-- with the segments told, and without
pub opening : (told : Option Segments) (m : Machine) (f : Option PageForest) (seg : SegId) → is_some (cache_named m.caches seg.0) ≡ false
    → (a : Answer) (next : Machine) (rises : MapperCounts) → OutcomeAt told m f (vm_commands.OpenSegment seg) a next rises → Opening told m seg.0 rises a next
opening (Some h) m f seg free a next rises o = opening_outcome (Some h) m f h seg refl free a next rises o
opening None m f seg free a next rises o =
    let free_whole : is_some (cache_named o.whole.caches seg.0) ≡ false = sym (named_blank seg.0 o.whole.caches) ∙ ap (λ (x : Machine). is_some (cache_named x.caches seg.0)) (sym o.is) ∙ free in
    subst (λ (x : Machine). Opening None x seg.0 rises a next) (sym o.is)
    (subst (λ (x : Machine). Opening None (blank o.whole) seg.0 rises a x) (sym o.is_next)
    (opening_blank o.whole o.whole_next seg.0 rises o.whole_answer a o.alike
    (opening_outcome None o.whole f o.segments seg tt free_whole o.whole_answer o.whole_next rises o.outcome)))

-- Whether a cache has a page

-- it is told, or there is a reason for it
abbrev pub Telling : ℕ → CacheId → PageNo → Answer → Type 0
Telling has cache page answer = ((f : PageForest) × (answer ≡ Ok (replies.Chain (chain_of f (page_name cache page.0)))) × (page.0 + 1 ≤ has))
    ⊎ ((answer ≡ Err troubles.Memory) ⊎ ((answer ≡ Err (troubles.Refused refusals.OutOfCache)) × (has < page.0 + 1)))

is_past : (n k : ℕ) → nat_lt n k ≡ true → n < k
is_past n k e = grind (arith, nat_tests)

some_same : {A : Type 0} (o : Option A) (x y : A) → o ≡ Some x → o ≡ Some y → x ≡ y
some_same o x y e f = let both : Some x ≡ Some y = sym e ∙ f in cc both

chain_row : (m : Machine) (f : PageForest) (cache : CacheId) (page : PageNo) (c : Cache) → cache_of m cache.0 ≡ Some c → (let a = vm.chain_answer m f cache page.0 in Telling (length c.pages) cache page a.answer)
unfolding vm.chain_answer
chain_row m f cache page c there =
    let P = λ (a : vm.Answered). Telling (length c.pages) cache page a.answer in
    each_some P (cache_of m cache.0) _ m _ (λ none. absurd (let wrong : None ≡ Some c = sym none ∙ there in cc wrong)) (λ d here.
    let same : length d.pages ≡ length c.pages = ap (λ (x : Cache). length x.pages) (some_same _ d c here there) in
    each_unless P _ _ m _ (λ past. inr (inr (refl, (let less : length d.pages < page.0 + 1 = is_past _ _ past in omega (arith, less, same)))))
    (λ inside. inl (f, refl, (let less : page.0 + 1 ≤ length d.pages = not_past _ _ inside in omega (arith, less, same)))))

chain_at : (m : Machine) (f : PageForest) (cache : CacheId) (page : PageNo) (c : Cache) → cache_of m cache.0 ≡ Some c → (a : Answer) (next : Machine) → vm.chain_answer m f cache page.0 ≡ record { answer = a; next = next } → Telling (length c.pages) cache page a
chain_at m f cache page c there a next e = subst (λ (x : vm.Answered). Telling (length c.pages) cache page x.answer) e (chain_row m f cache page c there)

chain_outcome : (m : Machine) (f : Option PageForest) (h : Segments) (cache : CacheId) (page : PageNo) (c : Cache) → cache_of m cache.0 ≡ Some c
    → (a : Answer) (next : Machine) (rises : MapperCounts) → Outcome m f (vm_commands.Chain cache page) h a next rises → Telling (length c.pages) cache page a
chain_outcome m f h cache page c there (Ok r) next rises o = chain_at m (forest_shown f m) cache page c there (Ok r) next o
chain_outcome m f h cache page c there (Err (troubles.Refused r)) next rises o = chain_at m (forest_shown f m) cache page c there (Err (troubles.Refused r)) next o
chain_outcome m f h cache page c there (Err (troubles.Mapper at)) next rises o = absurd o.2
chain_outcome m f h cache page c there (Err troubles.Memory) next rises o = inr (inl refl)

telling_alike : (has : ℕ) (cache : CacheId) (page : PageNo) (whole a : Answer) → IsAlike whole a → Telling has cache page whole → Telling has cache page a
telling_alike has cache page whole a alike (inl h) = inl (h.0, sym (subst (λ (x : Answer). IsAlike x a) h.1 alike), h.2)
telling_alike has cache page whole a alike (inr (inl e)) = inr (inl (sym (subst (λ (x : Answer). IsAlike x a) e alike)))
telling_alike has cache page whole a alike (inr (inr h)) = inr (inr (sym (subst (λ (x : Answer). IsAlike x a) h.0 alike), h.1))

blank_some : (o : Option Cache) (c : Cache) → option_map blank_cache o ≡ Some c → (d : Cache) × (o ≡ Some d) × (length d.pages ≡ length c.pages)
blank_some None c e = absurd (cc e)
blank_some (Some d) c e = (d, refl, (let same : blank_cache d ≡ c = cc e in sym (length-map d.pages (λ _. [])) ∙ ap (λ (x : Cache). length x.pages) same))

pub telling : (told : Option Segments) (m : Machine) (f : Option PageForest) (cache : CacheId) (page : PageNo) (c : Cache) → cache_of m cache.0 ≡ Some c
    → (a : Answer) (next : Machine) (rises : MapperCounts) → OutcomeAt told m f (vm_commands.Chain cache page) a next rises → Telling (length c.pages) cache page a
telling (Some h) m f cache page c there a next rises o = chain_outcome m f h cache page c there a next rises o
telling None m f cache page c there a next rises o =
    let d = blank_some (cache_of o.whole cache.0) c (sym (numbered-map blank_cache o.whole.caches cache.0) ∙ ap (λ (x : Machine). cache_of x cache.0) (sym o.is) ∙ there) in
    telling_alike (length c.pages) cache page o.whole_answer a o.alike
    (subst (λ (n : ℕ). Telling n cache page o.whole_answer) d.2 (chain_outcome o.whole f o.segments cache page d.0 d.1 o.whole_answer o.whole_next rises o.outcome))

module _ {Manager X Chooser : Type 0} (G : GhostsOfGmi Manager X Chooser) (gmi : Manager) (told : Option Held) (valid : G.valid gmi told) (unlimited : G.room gmi ≡ None) (image : CacheId) (pages : ℕ) (some : 1 ≤ pages)
    (c : Cache) (there : cache_of (G.machine gmi told) image.0 ≡ Some c) where
  abbrev last : PageNo
  last = record { 0 = pages - 1 }

  told_of : (answer : Answer) → AnswersWithin (meanings_of G) gmi (vm_commands.Chain image last) answer gmi → Telling (length c.pages) image last answer
  told_of answer answers =
      let is : vm_run.AnswerIs (vm_run.state_of G.machine G.forest gmi told) (vm_commands.Chain image last) answer [] no_counts (vm_run.state_of G.machine G.forest gmi told) =
      subst (λ (room : Option ℕ). AnswerWithin room (vm_run.state_of G.machine G.forest gmi told) (vm_commands.Chain image last) answer [] no_counts (vm_run.state_of G.machine G.forest gmi told)) unlimited (answers told valid) in
      telling (segments_of told) (G.machine gmi told) (G.forest gmi told) image last c there answer (G.machine gmi told) no_counts is.outcome

  has_page : {A : Type 0} (f : A → Reply) (x : A) → Telling (length c.pages) image last (Ok (f x)) → Checks c.pages pages (Ok tt)
  has_page f x (inl h) = omega (arith, h.2, some)
  has_page f x (inr (inl e)) = absurd (cc e)
  has_page f x (inr (inr h)) = absurd (cc h.0)

  has_trouble : (t : Trouble) → Telling (length c.pages) image last (Err t) → Checks c.pages pages (Err (as_bad_image t))
  has_trouble t (inl h) = absurd (cc h.1)
  has_trouble t (inr (inl e)) = let is : t ≡ troubles.Memory = cc e in subst (λ (t : Trouble). Checks c.pages pages (Err (as_bad_image t))) (sym is) tt
  has_trouble t (inr (inr h)) =
      let e = h.0 in
      let is : t ≡ troubles.Refused refusals.OutOfCache = cc e in
      let less : length c.pages < pages = omega (arith, h.1, some) in
      subst (λ (t : Trouble). Checks c.pages pages (Err (as_bad_image t))) (sym is) less

  pub checked_ok : {A : Type 0} (f : A → Reply) (r : Result A Trouble) (x : A) → r ≡ Ok x → AnswersWithin (meanings_of G) gmi (vm_commands.Chain image last) (vm.answer_by f r) gmi → Checks c.pages pages (Ok tt)
  checked_ok f r x e answers = has_page f x (subst (λ r. Telling (length c.pages) image last (vm.answer_by f r)) e (told_of (vm.answer_by f r) answers))

  pub checked_err : {A : Type 0} (f : A → Reply) (r : Result A Trouble) (t : Trouble) → r ≡ Err t → AnswersWithin (meanings_of G) gmi (vm_commands.Chain image last) (vm.answer_by f r) gmi → Checks c.pages pages (Err (as_bad_image t))
  checked_err f r t e answers = has_trouble t (subst (λ r. Telling (length c.pages) image last (vm.answer_by f r)) e (told_of (vm.answer_by f r) answers))
