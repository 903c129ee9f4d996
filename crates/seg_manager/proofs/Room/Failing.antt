-- Where a cache to which nothing refers couldn't be destroyed to make room: the machine of which
-- that is seen, and its fault.
use Rattle.std.proofs.Common.{◌≡◌, ℕ, ◌+◌, Bool, true, false, cond, List, [], ◌∷◌, length, map, Option, Some, None, refl, sym, ap, subst, ◌∙◌}
use Rattle.std.specs.Prelude.{◌||◌, ◌++◌, Err, Ok, nat_le, nat_lt, option_map}
use Rattle.std.specs.FinMap.{get}
use Rattle.std.specs.List.{position_from}
use Rattle.std.specs.Option.{option_map_or}
use Rattle.std.proofs.lemmas.List.{length-map}
use Rattle.vm_ids.specs.declared.command.Command.TheVariants.{Destroy, MakeTemp, OpenSegment}
use Rattle.vm_ids.specs.declared.command.KeepCommand.{KeepCommand}
use Rattle.vm_ids.specs.declared.command.KeepCommand.TheVariants as commands
use Rattle.vm_ids.specs.declared.refusal.Refusal.TheVariants.{NoSegment, TooMany}
use Rattle.vm_ids.specs.declared.reply.FaultAt.TheVariants as faults
use Rattle.vm_ids.specs.declared.reply.Reply.TheVariants.{Cache as MadeCache}
use Rattle.vm_ids.specs.declared.reply.Trouble.TheVariants.{Mapper, Refused}
use Rattle.vm_model.specs.Answering as plain
use Rattle.vm_model.specs.Outcome as plain_outcome
use Rattle.vm_model.proofs.Parts.Lists.{numbered-map}
use Rattle.interface_callers.proofs.Words.{Answer, Cache, CacheId, FaultAt, LIVE_PAGES, Machine, MapperCounts, MOST_MADE, OutcomeAt, Page, PageForest, Refusal, SegId, Segments, blank, blank_cache, cache_of, is_named_by, live_pages, make_temp_of, open_of, opened, unless, with_some}
use Rattle.interface_callers.proofs.Answers.{alike_err}
use Rattle.interface_callers.proofs.Naming.{named_blank}
use Rattle.interface_callers.proofs.Blanks.{blank_live}
use Rattle.seg_manager.specs.Inner.{first_of}
use Rattle.seg_manager.specs.Outcome.{FailsToMakeRoom, LacksRoom, MayFault}
use Rattle.seg_manager.specs.ReferenceMachine.{ReferenceMachine, Stored, goes, is_unreferenced, let_go, number_in}
use Rattle.seg_manager.specs.Seen.{openings_in, references_seen, stored_beside, whole_of}
use Rattle.seg_manager.specs.Stepping.{State, blank_references}
use Rattle.seg_manager.specs.Tying.{AreTied}
use Rattle.seg_manager.specs.declared.tables.Kept.{Kept}
use Rattle.seg_manager.specs.declared.tables.Mapped.{Mapped}
use Rattle.seg_manager.specs.declared.tables.Named.{Named}
use Rattle.seg_manager.proofs.Opens.FirstSeen.{unnamed}
use Rattle.seg_manager.proofs.Calling.OneGone.{unreferenced}
use Rattle.seg_manager.proofs.Seeing.WhichGo.{Caches, used_same}
use Rattle.seg_manager.proofs.Seeing.Steps.{AreSeen, blank_used}

-- Whether there is room depends on sizes alone.

as_many : (w : Machine) → length (blank w).caches ≡ length w.caches
as_many w = length-map w.caches (option_map blank_cache)

both_unless : (b c : Bool) (r : Refusal) (m n : Machine) (go went : plain.Answered) → c ≡ b → went.answer ≡ go.answer → (unless c r n went).answer ≡ (unless b r m go).answer
unfolding unless
both_unless true c r m n go went e same = ap (λ (x : Bool). (unless x r n went).answer) e
both_unless false c r m n go went e same = ap (λ (x : Bool). (unless x r n went).answer) e ∙ same

tells_next : (w : Machine) → (let a : Answer = Ok (MadeCache (record { 0 = length (blank w).caches + 1 })) in a) ≡ Ok (MadeCache (record { 0 = length w.caches + 1 }))
tells_next w = ap (λ (k : ℕ). let a : Answer = Ok (MadeCache (record { 0 = k + 1 })) in a) (as_many w)

temp_alike : (w : Machine) (pages : ℕ) → (make_temp_of (blank w) pages).answer ≡ (make_temp_of w pages).answer
unfolding make_temp_of
temp_alike w pages =
    both_unless (nat_le MOST_MADE (length w.caches) || nat_lt LIVE_PAGES (live_pages w + pages)) (nat_le MOST_MADE (length (blank w).caches) || nat_lt LIVE_PAGES (live_pages (blank w) + pages)) TooMany w (blank w) _ _
    (λ i. nat_le MOST_MADE (as_many w i) || nat_lt LIVE_PAGES (blank_live w i + pages)) (tells_next w)

-- what an opening comes to where there is such a segment
abbrev Made : Machine → ℕ → List Page → plain.Answered
Made w seg pages =
    unless (nat_lt LIVE_PAGES (live_pages w + length pages)) TooMany w
    (plain.reply (MadeCache (record { 0 = length w.caches + 1 })) (record w { caches = w.caches ++ Some (opened seg pages) ∷ [] }))

held_alike : (w : Machine) (seg : ℕ) (o : Option (List Page)) → (with_some o NoSegment (blank w) (Made (blank w) seg)).answer ≡ (with_some o NoSegment w (Made w seg)).answer
unfolding with_some
held_alike w seg None = refl
held_alike w seg (Some pages) =
    both_unless (nat_lt LIVE_PAGES (live_pages w + length pages)) (nat_lt LIVE_PAGES (live_pages (blank w) + length pages)) TooMany w (blank w) _ _
    (λ i. nat_lt LIVE_PAGES (blank_live w i + length pages)) (tells_next w)

open_alike : (w : Machine) (seg : ℕ) (held : Option (List Page)) → (open_of (blank w) seg held).answer ≡ (open_of w seg held).answer
unfolding open_of
open_alike w seg held =
    both_unless _ _ _ w (blank w) _ _ (named_blank seg w.caches)
    (both_unless _ _ _ w (blank w) _ _ (ap (nat_le MOST_MADE) (as_many w)) (held_alike w seg held))

-- without bytes a segment's cache has the same number
pub number_blank : (seg k : ℕ) (cs : Caches) → number_in k (map (option_map blank_cache) cs) seg ≡ number_in k cs seg
number_blank seg k [] = refl
number_blank seg k (None ∷ cs) = number_blank seg (k + 1) cs
number_blank seg k (Some c ∷ cs) = ap (cond (is_named_by seg (Some c)) (Some k)) (number_blank seg (k + 1) cs)

-- Of a machine this is seen before and after, in which there was no room, and a cache to which
-- nothing refers couldn't be destroyed at this fault.
pub record IsFailing (now : Option Segments) (before after : State) (command : KeepCommand) (at : FaultAt) (rises : MapperCounts) : Type 0 where
  pub whole : ReferenceMachine
  pub forest : Option PageForest
  pub seen : AreSeen now before after whole whole
  pub fails : (h : Segments) → FailsToMakeRoom whole forest command h at rises

-- what a destroy may fail at depends on the machine and the forest alone
destroy_fault : (m : Machine) (f : Option PageForest) (h g : Segments) (cache : CacheId) (at : FaultAt) (its rises : MapperCounts) → plain_outcome.MayFault m f (Destroy cache) h at its → plain_outcome.MayFault m f (Destroy cache) g at rises
destroy_fault m f h g cache (faults.Page p) its rises may = may
destroy_fault m f h g cache (faults.Save done) its rises may = may
destroy_fault m f h g cache at its rises may = absurd may

-- an opening that fails so doesn't fail at its own question
pub open_may : (r : ReferenceMachine) (f : Option PageForest) (seg : SegId) (h : Segments) (at : FaultAt) (rises : MapperCounts) → FailsToMakeRoom r f (commands.Plain (OpenSegment seg)) h at rises → MayFault r f (commands.Plain (OpenSegment seg)) h at rises
open_may r f seg h faults.Opening rises fails = absurd fails.fault
open_may r f seg h at rises fails = fails

module _ (m : Machine) (cs : List Named) where
  -- a machine with bytes, with these pages stored
  abbrev over : Machine → Stored → ReferenceMachine
  over w st = record { memory = w; stored = st; openings = openings_in cs }

  seen_over : (w : Machine) (st : Stored) → m ≡ blank w → references_seen m None cs ≡ blank_references (let_go (over w st))
  seen_over w st is = ap (λ (x : Machine). references_seen x None cs) is ∙ (λ i. record {
    memory = record w { caches = (used_same (over w st) (whole_of (blank w) None cs) refl refl 1 (blank w).caches ∙ sym (blank_used (over w st) 1 w.caches)) i };
    stored = λ seg. None;
    openings = openings_in cs;
  })

  unused_over : (w : Machine) (st : Stored) (n : ℕ) → m ≡ blank w → is_unreferenced (over w st) n ≡ is_unreferenced (whole_of m None cs) n
  unused_over w st n is = sym (
      ap (λ (x : Machine). is_unreferenced (over x (stored_beside m None)) n) is
      ∙ ap (λ (o : Option Cache). option_map_or (goes (over (blank w) (stored_beside m None)) n) o false) (numbered-map blank_cache w.caches n)
      ∙ by (cache_of w n)
      )
    where
      by : (o : Option Cache) → option_map_or (goes (over (blank w) (stored_beside m None)) n) (option_map blank_cache o) false ≡ option_map_or (goes (over w st) n) o false
      by None = refl
      by (Some c) = refl

  -- There is no room in the machine; or where it has no bytes, in none with bytes for which it stands.
  abbrev pub HasNone : Option Segments → KeepCommand → Type 0
  HasNone (Some s) command = LacksRoom (whole_of m (Some s) cs) command
  HasNone None command = (st : Stored) × ((w : Machine) → m ≡ blank w → LacksRoom (over w st) command)

  pub temp_none : (told : Option Segments) (f : Option PageForest) (n : Machine) (rises : MapperCounts) (pages : ℕ) → OutcomeAt told m f (MakeTemp pages) (Err (Refused TooMany)) n rises → HasNone told (commands.Plain (MakeTemp pages))
  temp_none (Some s) f n rises pages o = ap (λ (z : plain.Answered). z.answer) o
  temp_none None f n rises pages o =
      let row = subst (λ (a : Answer). plain_outcome.Outcome o.whole f (MakeTemp pages) o.segments a o.whole_next rises) (alike_err (Refused TooMany) o.whole_answer o.alike) o.outcome in (
        (λ seg. None),
        (λ w is. sym (temp_alike w pages) ∙ ap (λ (z : Machine). (make_temp_of z pages).answer) (sym is ∙ o.is) ∙ temp_alike o.whole pages ∙ ap (λ (z : plain.Answered). z.answer) row),
      )

  module _ (ks : List Kept) (room : ℕ) (rs : List Mapped) where
    pub open_none : (told : Option Segments) (t : AreTied m told cs ks room rs) (f : Option PageForest) (n : Machine) (rises : MapperCounts) (seg : SegId) → None ≡ position_from (first_of seg.0) 0 cs → OutcomeAt told m f (OpenSegment seg) (Err (Refused TooMany)) n rises → HasNone told (commands.Plain (OpenSegment seg))
    open_none (Some s) t f n rises seg anew o =
        ap (λ (b : Bool). (open_of m seg.0 (cond b None (get s.pages seg.0))).answer) (unnamed m (Some s) cs ks room rs t seg (sym anew))
        ∙ ap (λ (z : plain.Answered). z.answer) o
    open_none None t f n rises seg anew o =
        let held = get o.segments.pages seg.0 in
        let row = subst (λ (a : Answer). plain_outcome.Outcome o.whole f (OpenSegment seg) o.segments a o.whole_next rises) (alike_err (Refused TooMany) o.whole_answer o.alike) o.outcome in (
          (λ other. held),
          (λ w is. sym (open_alike w seg.0 held) ∙ ap (λ (z : Machine). (open_of z seg.0 held).answer) (sym is ∙ o.is) ∙ open_alike o.whole seg.0 held ∙ ap (λ (z : plain.Answered). z.answer) row),
        )

    module _ (first : Kept) (rest : List Kept) (kept : ks ≡ first ∷ rest) (f : Option PageForest) (n : Machine) (at : FaultAt) (its rises : MapperCounts) (command : KeepCommand) (before after : State) where
      pub failing : (told now : Option Segments) → option_map (λ (h : Segments). h.denied) now ≡ option_map (λ (h : Segments). h.denied) told → AreTied m told cs ks room rs → before.references ≡ references_seen m told cs → after.references ≡ references_seen m told cs
          → OutcomeAt now m f (Destroy first.cache) (Err (Mapper at)) n its → HasNone told command → IsFailing now before after command at rises
      failing (Some s) (Some u) e t x y d none = record {
        whole = references_seen m (Some s) cs;
        forest = f;
        seen = (x, y);
        fails = λ h. record {
          all = whole_of m (Some s) cs;
          cache = first.cache;
          left = refl;
          lacks = none;
          unused = unreferenced m (Some s) cs first rest room rs (subst (λ (xs : List Kept). AreTied m (Some s) cs xs room rs) kept t);
          fault = destroy_fault m f u h first.cache at its rises d.2;
        };
      }
      failing None (Some u) e t x y d none = absurd (cc e)
      failing (Some s) None e t x y d none = absurd (cc e)
      failing None None e t x y d none =
          let w : Machine = d.whole in
          let st : Stored = none.0 in
          let of = subst (λ (a : Answer). plain_outcome.Outcome w f (Destroy first.cache) d.segments a d.whole_next its) (alike_err (Mapper at) d.whole_answer d.alike) d.outcome in
          record {
            whole = let_go (over w st);
            forest = f;
            seen = (x ∙ seen_over w st d.is, y ∙ seen_over w st d.is);
            fails = λ h. record {
              all = over w st;
              cache = first.cache;
              left = refl;
              lacks = none.1 w d.is;
              unused = unused_over w st first.cache.0 d.is ∙ unreferenced m None cs first rest room rs (subst (λ (xs : List Kept). AreTied m None cs xs room rs) kept t);
              fault = destroy_fault w f d.segments h first.cache at its rises of.2;
            };
          }
