-- After a call of the manager below, what it takes to call it again.
use Rattle.std.proofs.Common.{◌≡◌, ℕ, ◌+◌, ◌*◌, ◌≤◌, true, Option, Some, None, refl, sym, ap, subst, ◌∙◌, arith}
use Rattle.std.specs.Prelude.{IfNone, Ok, Err, is_some}
use Rattle.vm_ids.specs.declared.reply.Trouble.TheVariants as troubles
use Rattle.vm_model.specs.Run.{CallIs, state_of}
use Rattle.vm_model.proofs.Outcomes.Kept.{IsKept, kept}
use Rattle.gmi_calls.specs.Room.{CallWithin}
use Rattle.interface_callers.proofs.Words.{Answer, Command, Fits, GhostsOfGmi, GhostsOfMapper, LIVE_PAGES, Machine, MapperCall, RaisesMade, blank, live_pages, meanings_of, segments_of}
use Rattle.interface_callers.proofs.Blanks.{blank_after}

pub unlimited_still : (before now : Option ℕ) → before ≡ None → is_some now ≡ is_some before → now ≡ None
unlimited_still before None e h = refl
unlimited_still before (Some n) e h = absurd (let yes : true ≡ is_some before = h in cc (yes, ap is_some e))

pub fits_still : (told now : Option ℕ) (m next : Machine) → now ≡ told → next.page_bytes ≡ m.page_bytes → Fits told m → Fits now next
fits_still told now m next same page fits = subst (λ (o : Option ℕ). Fits o next) (sym same) (go told fits)
  where
    go : (told : Option ℕ) → Fits told m → Fits told next
    go None fits = fits
    go (Some n) fits = fits ∙ sym page

raised : (m n : Machine) (c : Command) (a : Answer) (before now : ℕ) → live_pages m ≤ LIVE_PAGES → IsKept m c a n → RaisesMade m c a n before now → now ≤ before + 32 * LIVE_PAGES + 8
raised m n c (Ok r) before now few k made = omega (arith, made, k.touched few tt, k.live few)
raised m n c (Err (troubles.Refused r)) before now few k made = omega (arith, made)
raised m n c (Err (troubles.Mapper at)) before now few k made = omega (arith, made, k.touched few tt, k.live few)
raised m n c (Err troubles.Memory) before now few k made = omega (arith, made, k.touched few tt, k.live few)

module _ {Manager X Chooser : Type 0} (M : GhostsOfMapper X) (G : GhostsOfGmi Manager X Chooser) (old gmi : Manager) (before after : X) (c : Command) (a : Answer) (unlimited : G.room old ≡ None) (call : MapperCall M (meanings_of G) before old c a after gmi) where
  abbrev m : Machine
  m = G.machine old (M.held before)

  abbrev n : Machine
  n = G.machine gmi (M.held after)

  -- it was answered
  abbrev pub call_is : CallIs (M.counts before) (M.counts after) (state_of G.machine G.forest old (M.held before)) c a (state_of G.machine G.forest gmi (M.held after))
  call_is = subst (λ (room : Option ℕ). CallWithin room (M.counts before) (M.counts after) (state_of G.machine G.forest old (M.held before)) c a (state_of G.machine G.forest gmi (M.held after))) unlimited call.answers

  pub keeps : IsKept m c a n
  keeps = kept (segments_of (M.held after)) m n (G.forest old (M.held before)) c a call_is.rises call_is.is.outcome

  pub made_after : live_pages m ≤ LIVE_PAGES → G.made gmi ≤ G.made old + 32 * LIVE_PAGES + 8
  made_after live = raised m n c a (G.made old) (G.made gmi) live keeps call.made

  pub unlimited_after : G.room gmi ≡ None
  unlimited_after = unlimited_still (G.room old) (G.room gmi) unlimited call.room

  pub fits_after : Fits (M.page_bytes before) m → Fits (M.page_bytes after) n
  fits_after fits = fits_still (M.page_bytes before) (M.page_bytes after) m n call.page keeps.page fits

  pub blank_then : IfNone (M.held after) (n ≡ blank n)
  blank_then = blank_after (M.held after) m n (G.forest old (M.held before)) c a call_is.rises call_is.is.outcome
