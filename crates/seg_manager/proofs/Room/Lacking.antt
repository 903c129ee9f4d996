-- Where no cache is kept, what is referred to is all there is below: there is no room beside it
-- where the manager below has none.
use Rattle.std.proofs.Common.{arith, ◌≡◌, suc, ◌-◌, ℕ, ◌+◌, false, cond, List, [], ◌∷◌, Option, Some, None, refl, sym, ap, subst, ◌∙◌}
use Rattle.std.specs.Prelude.{Err, option_and_then, slice_get}
use Rattle.std.specs.FinMap.{get}
use Rattle.std.specs.List.{position_from}
use Rattle.std.specs.Option.{option_map_or}
use Rattle.vm_ids.specs.declared.command.Command.TheVariants.{MakeTemp, OpenSegment}
use Rattle.vm_ids.specs.declared.command.KeepCommand.{KeepCommand}
use Rattle.vm_ids.specs.declared.command.KeepCommand.TheVariants as commands
use Rattle.vm_ids.specs.declared.refusal.Refusal.TheVariants.{TooMany}
use Rattle.vm_ids.specs.declared.reply.Trouble.TheVariants.{Refused}
use Rattle.vm_model.specs.Answering as plain
use Rattle.vm_model.specs.Outcome as plain_outcome
use Rattle.vm_model.proofs.Parts.ListParts.{at_some}
use Rattle.interface_callers.proofs.Words.{Answer, Cache, Machine, MapperCounts, OutcomeAt, Page, PageForest, SegId, Segments, blank, cache_of, make_temp_of, open_of}
use Rattle.interface_callers.proofs.Answers.{alike_err}
use Rattle.seg_manager.specs.Keeps.{is_kept}
use Rattle.seg_manager.specs.Inner.{first_of}
use Rattle.seg_manager.specs.Outcome.{LacksRoom}
use Rattle.seg_manager.specs.ReferenceMachine.{ReferenceMachine, goes, used, used_at}
use Rattle.seg_manager.specs.Seen.{openings_in, references_seen, whole_of}
use Rattle.seg_manager.specs.Stepping.{State, blank_references}
use Rattle.seg_manager.specs.Tying.{AreTied}
use Rattle.seg_manager.specs.declared.tables.Kept.{Kept}
use Rattle.seg_manager.specs.declared.tables.Mapped.{Mapped}
use Rattle.seg_manager.specs.declared.tables.Named.{Named}
use Rattle.seg_manager.proofs.Seeing.WhichGo.{Caches}
use Rattle.seg_manager.proofs.Calling.Pushed.{Told}
use Rattle.seg_manager.proofs.Seeing.Steps.{AreSeen}
use Rattle.seg_manager.proofs.Opens.FirstBefore.{stored_as}

-- none of these goes
abbrev Stay : ReferenceMachine → ℕ → Caches → Type 0
Stay r k xs = (j : ℕ) → option_map_or (goes r (k + j)) (option_and_then (λ x. x) (slice_get xs j)) false ≡ false

used_here : (r : ReferenceMachine) (k : ℕ) (o : Option Cache) → option_map_or (goes r k) o false ≡ false → used_at r k o ≡ o
used_here r k None e = refl
used_here r k (Some c) e = ap (λ b. cond b None (Some c)) e

used_all : (r : ReferenceMachine) (k : ℕ) (xs : Caches) → Stay r k xs → used r k xs ≡ xs
used_all r k [] stay = refl
used_all r k (x ∷ xs) stay =
    let first : k + 0 ≡ k = omega arith in
    let here = used_here r k x (subst (λ (n : ℕ). option_map_or (goes r n) x false ≡ false) first (stay 0)) in
    let rest = used_all r (k + 1) xs (λ j. let next : k + suc j ≡ k + 1 + j = omega arith in subst (λ (n : ℕ). option_map_or (goes r n) (option_and_then (λ y. y) (slice_get xs j)) false ≡ false) next (stay (suc j))) in
    λ i. here i ∷ rest i

module _ (m : Machine) (told : Option Segments) (cs : List Named) (ks : List Kept) (room : ℕ) (rs : List Mapped) (t : AreTied m told cs ks room rs) (none : ks ≡ []) where
  abbrev W : ReferenceMachine
  W = whole_of m told cs

  abbrev R : ReferenceMachine
  R = references_seen m told cs

  stay : Stay W 1 m.caches
  stay j =
      let place : 1 + j - 1 ≡ j = omega arith in
      let at : cache_of m (1 + j) ≡ option_and_then (λ x. x) (slice_get m.caches j) = at_some m.caches (1 + j) (omega arith) ∙ ap (λ (n : ℕ). option_and_then (λ x. x) (slice_get m.caches n)) place in
      ap (λ (o : Option Cache). option_map_or (goes W (1 + j)) o false) (sym at) ∙ sym (t.kept (1 + j)) ∙ ap (λ (xs : List Kept). is_kept xs (1 + j)) none

  all_there : used W 1 m.caches ≡ m.caches
  all_there = used_all W 1 m.caches stay

seen_all : (told : Option Segments) (m : Machine) (cs : List Named) (ks : List Kept) (room : ℕ) (rs : List Mapped) → AreTied m told cs ks room rs → ks ≡ [] → (references_seen m told cs).memory ≡ m
seen_all None m cs ks room rs t none = λ i. record m { caches = all_there m None cs ks room rs t none i }
seen_all (Some h) m cs ks room rs t none = λ i. record m { caches = all_there m (Some h) cs ks room rs t none i }

-- Of a machine this is seen before and after, and the command finds no room there.
pub record IsLacking (now : Option Segments) (before after : State) (command : KeepCommand) : Type 0 where
  pub whole : ReferenceMachine
  pub seen : AreSeen now before after whole whole
  pub lacks : LacksRoom whole command

-- where nothing is told, what is referred to of a machine with bytes, and with these pages stored
abbrev whole_held : ReferenceMachine → Machine → Option (List Page) → ReferenceMachine
whole_held r w held = record r { memory = w; stored = λ seg. held }

module _ (m : Machine) (cs : List Named) (ks : List Kept) (room : ℕ) (rs : List Mapped) (none : ks ≡ []) where
  seen_held : (t : AreTied m None cs ks room rs) (w : Machine) (held : Option (List Page)) → m ≡ blank w → references_seen m None cs ≡ blank_references (whole_held (references_seen m None cs) w held)
  seen_held t w held is = λ i. record {
    memory = (seen_all None m cs ks room rs t none ∙ is) i;
    stored = λ seg. None;
    openings = openings_in cs;
  }

  module _ (f : Option PageForest) (n : Machine) (rises : MapperCounts) (before after : State) where
    pub temp_lacks : (told now : Option Segments) (t : AreTied m told cs ks room rs) → Told m told now → before.references ≡ references_seen m told cs → after.references ≡ references_seen m told cs
        → (pages : ℕ) → OutcomeAt now m f (MakeTemp pages) (Err (Refused TooMany)) n rises → IsLacking now before after (commands.Plain (MakeTemp pages))
    temp_lacks told (Some h) t follow x y pages o = record {
      whole = references_seen m told cs;
      seen = (x, y);
      lacks = ap (λ (z : Machine). (make_temp_of z pages).answer) (seen_all told m cs ks room rs t none) ∙ ap (λ (z : plain.Answered). z.answer) o;
    }
    temp_lacks (Some s) None t follow x y pages o = absurd (let u = follow.some s refl in cc u.1)
    temp_lacks None None t follow x y pages o =
        let row = subst (λ (a : Answer). plain_outcome.Outcome o.whole f (MakeTemp pages) o.segments a o.whole_next rises) (alike_err (Refused TooMany) o.whole_answer o.alike) o.outcome in
        record {
          whole = whole_held (references_seen m None cs) o.whole None;
          seen = (x ∙ seen_held t o.whole None o.is, y ∙ seen_held t o.whole None o.is);
          lacks = ap (λ (z : plain.Answered). z.answer) row;
        }

    pub open_lacks : (told now : Option Segments) (t : AreTied m told cs ks room rs) → Told m told now → before.references ≡ references_seen m told cs → after.references ≡ references_seen m told cs
        → (seg : SegId) → None ≡ position_from (first_of seg.0) 0 cs → OutcomeAt now m f (OpenSegment seg) (Err (Refused TooMany)) n rises → IsLacking now before after (commands.Plain (OpenSegment seg))
    open_lacks (Some s) (Some h) t follow x y seg anew o =
        let stored = stored_as m (Some s) (Some h) cs ks room rs t seg anew follow (get h.pages seg.0) refl in
        record {
          whole = references_seen m (Some s) cs;
          seen = (x, y);
          lacks = (λ i. (open_of (seen_all (Some s) m cs ks room rs t none i) seg.0 (stored i)).answer) ∙ ap (λ (z : plain.Answered). z.answer) o;
        }
    open_lacks None (Some h) t follow x y seg anew o = absurd (let wrong : Some h ≡ None = follow.none refl in cc wrong)
    open_lacks (Some s) None t follow x y seg anew o = absurd (let u = follow.some s refl in cc u.1)
    open_lacks None None t follow x y seg anew o =
        let held = get o.segments.pages seg.0 in
        let row = subst (λ (a : Answer). plain_outcome.Outcome o.whole f (OpenSegment seg) o.segments a o.whole_next rises) (alike_err (Refused TooMany) o.whole_answer o.alike) o.outcome in
        record {
          whole = whole_held (references_seen m None cs) o.whole held;
          seen = (x ∙ seen_held t o.whole held o.is, y ∙ seen_held t o.whole held o.is);
          lacks = ap (λ (z : plain.Answered). z.answer) row;
        }
