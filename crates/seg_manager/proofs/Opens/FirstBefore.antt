-- A segment that has no cache, as it is seen before it is opened and behind that.
use Rattle.std.proofs.Common.{◌≡◌, ◌==◌, ℕ, suc, ◌-◌, Bool, true, false, cond, List, [], ◌∷◌, ◌++◌, Option, Some, None, refl, sym, ap, subst, ◌∙◌, arith}
use Rattle.std.specs.Prelude.{◌||◌, IfNone, IfSome, Ok, Err, Result, is_some, option_and_then, slice_get}
use Rattle.std.specs.FinMap.{get}
use Rattle.std.specs.List.{AllByRecursion, list_any, position_from}
use Rattle.std.specs.Option.{option_map_or}
use Rattle.std.proofs.lemmas.Bool.{eqb-true, ne_eqb}
use Rattle.vm_ids.specs.declared.command.Command.TheVariants.{OpenSegment}
use Rattle.vm_ids.specs.declared.command.KeepCommand.TheVariants as commands
use Rattle.vm_ids.specs.declared.refusal.Refusal.TheVariants as refusals
use Rattle.vm_ids.specs.declared.reply.Reply.TheVariants as replies
use Rattle.vm_ids.specs.declared.reply.Trouble.TheVariants as troubles
use Rattle.vm_model.proofs.Parts.ListParts.{at_some}
use Rattle.interface_callers.proofs.Words.{Cache, CacheId, FaultAt, Machine, MapperCounts, Page, SegId, Segments, Trouble, blank, cache_named, cache_of, is_named_by, opened, segment_of}
use Rattle.seg_manager.specs.Answering.{Answered, open_anew, open_by, open_of, refuse}
use Rattle.seg_manager.specs.Inner.{first_of}
use Rattle.seg_manager.specs.Keeping.{AreBehind, IsAcquired}
use Rattle.seg_manager.specs.Outcome.{GoesOn}
use Rattle.seg_manager.specs.ReferenceMachine.{ReferenceMachine, number_in, used}
use Rattle.seg_manager.specs.Seen.{kept_segments, references_seen, whole_of}
use Rattle.seg_manager.specs.Stepping.{State}
use Rattle.seg_manager.specs.Tying.{AreTied}
use Rattle.seg_manager.specs.declared.tables.Kept.{Kept}
use Rattle.seg_manager.specs.declared.tables.Mapped.{Mapped}
use Rattle.seg_manager.specs.declared.tables.Named.{Named}
use Rattle.seg_manager.proofs.Opens.AgainCall.{anew_row}
use Rattle.seg_manager.proofs.Opens.FirstSeen.{nobody, opened_next, seen_told, seen_untold, unnamed}
use Rattle.seg_manager.proofs.Opens.Outcome.{Ends, IsOpen, appended, failed, lacks, made, many, nowhere, number_next}
use Rattle.seg_manager.proofs.Opens.AgainSeen.{number_none, used_entry}
use Rattle.seg_manager.proofs.Calling.Pushed.{Follow, Told}
use Rattle.seg_manager.proofs.Seeing.Steps.{AreSeen, seen_blank}
use Rattle.seg_manager.proofs.Seeing.StoredPages.{stored_free}

-- What is seen has no cache of the segment, and what is stored is what the mapper holds.
module _ (m : Machine) (told : Option Segments) (cs : List Named) (ks : List Kept) (room : ℕ) (rs : List Mapped) (t : AreTied m told cs ks room rs) (seg : SegId) (anew : None ≡ position_from (first_of seg.0) 0 cs) where
  named_segment : (o : Option ℕ) → option_map_or (λ s. s == seg.0) o false ≡ true → o ≡ Some seg.0
  named_segment None e = absurd (cc e)
  named_segment (Some s) e = ap (λ (k : ℕ). Some k) (eqb-true s seg.0 e)

  nobody_at : (j : ℕ) (d : Cache) → slice_get m.caches j ≡ Some (Some d) → is_named_by seg.0 (Some d) ≡ true → ⊥
  nobody_at j d e f =
      let there : cache_of m (suc j) ≡ Some d = at_some m.caches (suc j) (omega arith) ∙ ap (option_and_then (λ (x : Option Cache). x)) (ap (slice_get m.caches) (let k : suc j - 1 ≡ j = omega arith in k) ∙ e) in
      nobody m told cs ks room rs t seg (sym anew) (suc j) (ap (option_and_then (λ (c : Cache). c.segment)) there ∙ named_segment d.segment f)

  pub number_unseen : number_in 1 (used (whole_of m told cs) 1 m.caches) seg.0 ≡ None
  number_unseen = number_none seg.0 1 (used (whole_of m told cs) 1 m.caches) (λ j d e f. nobody_at j d (used_entry (whole_of m told cs) m.caches j d e) f)

  pub number_below : number_in 1 m.caches seg.0 ≡ None
  number_below = number_none seg.0 1 m.caches nobody_at

  free_name : cache_named m.caches seg.0 ≡ None
  free_name = by (cache_named m.caches seg.0) (unnamed m told cs ks room rs t seg (sym anew))
    where
      by : (o : Option Cache) → is_some o ≡ false → o ≡ None
      by None e = refl
      by (Some c) e = absurd (cc e)

  -- none that is kept is of it
  pub not_kept : list_any (λ s. s == seg.0) (kept_segments ks) ≡ false
  not_kept = by ks t.named
    where
      by : (ls : List Kept) → AllByRecursion (λ (k : Kept). segment_of m k.cache.0 ≡ Some k.seg.0) ls → list_any (λ s. s == seg.0) (kept_segments ls) ≡ false
      by [] h = refl
      by (l ∷ ls) h = (λ i. ne_eqb l.seg.0 seg.0 (λ s. nobody m told cs ks room rs t seg (sym anew) l.cache.0 (h.0 ∙ ap (λ (x : ℕ). Some x) s)) i || by ls h.1 i)

-- the row, where the definition has no such segment
pub nowhere_row : (r : ReferenceMachine) (seg number : ℕ) → number_in 1 r.memory.caches seg ≡ None → r.stored seg ≡ None → open_of r seg number ≡ refuse r refusals.NoSegment
unfolding open_of
nowhere_row r seg number e f = ap (open_by r seg number) e ∙ ap (open_anew r seg number) f

pub goes_on_by : (r : ReferenceMachine) (seg : SegId) (number : ℕ) (at : FaultAt) → number_in 1 r.memory.caches seg.0 ≡ None → (o : Option (List Page)) → r.stored seg.0 ≡ o → GoesOn at (commands.Plain (OpenSegment seg)) (open_of r seg.0 number).answer
goes_on_by r seg number at e None f = subst (λ (x : Answered). GoesOn at (commands.Plain (OpenSegment seg)) x.answer) (sym (nowhere_row r seg.0 number e f)) (nothing at)
  where
    nothing : (at : FaultAt) → GoesOn at (commands.Plain (OpenSegment seg)) (Err (troubles.Refused refusals.NoSegment))
    nothing at = tt
goes_on_by r seg number at e (Some pages) f = subst (λ (x : Answered). GoesOn at (commands.Plain (OpenSegment seg)) x.answer) (sym (anew_row r seg.0 number pages e f)) (something at)
  where
    something : (at : FaultAt) → GoesOn at (commands.Plain (OpenSegment seg)) (Ok (replies.Cache (record { 0 = number })))
    something at = tt

pub behind_not : (Cause : List ℕ → Type 0) (b : Bool) (seg : ℕ) (kept now : List ℕ) (result : Result CacheId Trouble) → b ≡ false → AreBehind Cause kept now → IsAcquired Cause b seg kept result now
behind_not Cause false seg kept now result e h = h
behind_not Cause true seg kept now result e h = absurd (cc e)

-- what is stored for it is what the mapper holds
pub stored_held : (m : Machine) (s : Segments) (cs : List Named) (ks : List Kept) (room : ℕ) (rs : List Mapped) (t : AreTied m (Some s) cs ks room rs) (seg : SegId) → None ≡ position_from (first_of seg.0) 0 cs → (references_seen m (Some s) cs).stored seg.0 ≡ get s.pages seg.0
stored_held m s cs ks room rs t seg anew =
    let nobody_named = free_name m (Some s) cs ks room rs t seg anew in
    stored_free (whole_of m (Some s) cs) seg.0 1 m.caches nobody_named ∙ ap (λ (x : Option Cache). cond (is_some x) None (get s.pages seg.0)) nobody_named

-- and then
pub stored_as : (m : Machine) (told now : Option Segments) (cs : List Named) (ks : List Kept) (room : ℕ) (rs : List Mapped) (t : AreTied m told cs ks room rs) (seg : SegId) (anew : None ≡ position_from (first_of seg.0) 0 cs) → Told m told now
    → (o : Option (List Page)) → IfSome now (λ h. get h.pages seg.0 ≡ o) → IfSome told (λ h. (references_seen m told cs).stored seg.0 ≡ o)
stored_as m None now cs ks room rs t seg anew f o held = tt
stored_as m (Some s) now cs ks room rs t seg anew f o held =
    let u = f.some s refl in
    stored_held m s cs ks room rs t seg anew
    ∙ sym (u.2.beside seg.0 (ap is_some (free_name m (Some s) cs ks room rs t seg anew)))
    ∙ subst (λ (x : Option Segments). IfSome x (λ h. get h.pages seg.0 ≡ o)) u.1 held

pub stored_nothing : (told : Option Segments) (m : Machine) (cs : List Named) (seg : ℕ) → IfSome told (λ h. (references_seen m told cs).stored seg ≡ None) → (references_seen m told cs).stored seg ≡ None
stored_nothing None m cs seg h = refl
stored_nothing (Some s) m cs seg h = h

-- The machine from which an opening leads: where nothing is told, with these pages stored.
abbrev pub whole_for : Option Segments → ReferenceMachine → List Page → ReferenceMachine
whole_for None r pages = record r { stored = λ x. Some pages }
whole_for (Some h) r pages = r

pub whole_caches : (told : Option Segments) (r : ReferenceMachine) (pages : List Page) → (whole_for told r pages).memory.caches ≡ r.memory.caches
whole_caches None r pages = refl
whole_caches (Some h) r pages = refl

pub whole_stored : (told : Option Segments) (m : Machine) (cs : List Named) (seg : ℕ) (pages : List Page) → IfSome told (λ h. (references_seen m told cs).stored seg ≡ Some pages) → (whole_for told (references_seen m told cs) pages).stored seg ≡ Some pages
whole_stored None m cs seg pages h = refl
whole_stored (Some s) m cs seg pages h = h

pub seen_opened : (told now : Option Segments) (m n : Machine) (cs : List Named) (ks : List Kept) (room : ℕ) (rs : List Mapped) (t : AreTied m told cs ks room rs) (seg : SegId) (anew : None ≡ position_from (first_of seg.0) 0 cs) (pages : List Page)
    (d : Named) (of : d.seg.0 ≡ seg.0) (number : d.cache.0 ≡ number_next m) (one : d.openings ≡ 1) → Told m told now → n ≡ appended m (opened seg.0 pages) → IfNone told (m ≡ blank m) → IfNone now (n ≡ blank n)
    → (before after : State) → before.references ≡ references_seen m told cs → after.references ≡ references_seen n now (cs ++ d ∷ [])
    → AreSeen now before after (whole_for told (references_seen m told cs) pages) (opened_next (whole_for told (references_seen m told cs) pages) (number_next m) seg pages)
seen_opened None None m n cs ks room rs t seg anew pages d of number one f next bare bare_then before after x y = (
  x ∙ seen_blank m cs bare,
  y ∙ ap (λ (z : Machine). references_seen z None (cs ++ d ∷ [])) next
      ∙ seen_untold m cs ks room rs seg (sym anew) pages d of number one t (sym next ∙ bare_then ∙ ap blank next),
)
seen_opened None (Some u) m n cs ks room rs t seg anew pages d of number one f next bare bare_then before after x y = absurd (let wrong : Some u ≡ None = f.none refl in cc wrong)
seen_opened (Some s) None m n cs ks room rs t seg anew pages d of number one f next bare bare_then before after x y = absurd (let u = f.some s refl in cc u.1)
seen_opened (Some s) (Some u) m n cs ks room rs t seg anew pages d of number one f next bare bare_then before after x y =
    let v = f.some s refl in
    let same : v.0 ≡ u = (let e : Some u ≡ Some v.0 = v.1 in let is : u ≡ v.0 = cc e in sym is) in (
      x,
      y ∙ ap (λ (z : Machine). references_seen z (Some u) (cs ++ d ∷ [])) next
          ∙ seen_told m cs ks room rs seg (sym anew) pages d of number one s u t (subst (λ (z : Segments). Follow m s z) same v.2),
    )

pub opened_of : (told : Option Segments) (m : Machine) (seg : ℕ) (cache : CacheId) (n : Machine) (rises : MapperCounts) → Ends told m seg (Ok (replies.Cache cache)) n rises → IsOpen told m seg (Ok (replies.Cache cache)) n
opened_of told m seg cache n rises (made p) = p
opened_of told m seg cache n rises (many e s) = absurd (cc e)
opened_of told m seg cache n rises (nowhere e s h) = absurd (cc e)
opened_of told m seg cache n rises (failed e s h few) = absurd (cc e)
opened_of told m seg cache n rises (lacks e s) = absurd (cc e)
