-- The row of an exec, of any machine of processes.
use Rattle.std.proofs.Common.{◌≡◌, ◌⊎◌, inl, inr, ◌==◌, ℕ, ◌+◌, ◌≤◌, ◌<◌, Bool, true, false, cond, List, [], ◌∷◌, ◌++◌, length, map, take, drop, replicate, Option, Some, None, refl, sym, ap, subst, ◌∙◌, arith}
use Rattle.std.specs.Prelude.{Ok, Err, nat_lt, option_map}
use Rattle.std.specs.Bool.{IsTrue}
use Rattle.std.specs.Cmp.{nat_cmp_total, unsigned_tied}
use Rattle.std.specs.FinMap.{FinMap, empty, get, get-empty, get-insert, insert}
use Rattle.std.specs.Option.{option_map_or}
use Rattle.std.specs.Ordering.{nat_cmp}
use Rattle.std.proofs.lemmas.Bool.Decides.{nat_tests}
use Rattle.std.proofs.lemmas.List.{drop-map, take-map}
use Rattle.vm_ids.specs.declared.command.MixCommand.TheVariants as commands
use Rattle.vm_ids.specs.declared.refusal.Refusal.TheVariants as refusals
use Rattle.vm_ids.specs.declared.reply.FaultAt.TheVariants as faults
use Rattle.vm_ids.specs.declared.reply.Reply.TheVariants as replies
use Rattle.vm_ids.specs.declared.reply.Trouble.TheVariants as troubles
use Rattle.interface_callers.proofs.Words.{MapperCounts, MOST_MADE, Page, SegId, Segments, Trouble}
use Rattle.interface_callers.proofs.Blanks.{no_segments}
use Rattle.interface_callers.proofs.Lists.{map-replicate}
use Rattle.mix_process.specs.Answering as mix
use Rattle.mix_process.specs.Answering.{imaged, is_too_large, process_from, with_image}
use Rattle.mix_process.specs.Outcome.{RaisedBy, Usage, makes, one_cache, usage_for, would_pass}
use Rattle.mix_process.specs.ProcessMachine.{ProcessMachine, image_in, image_of}
use Rattle.mix_process.specs.Starting.{usage_to_open}
use Rattle.mix_process.specs.Stepping.{StepOver, each_in, each_of}
use Rattle.mix_process.specs.Use.{IsLack, IsWithin, usage_sum}
use Rattle.mix_process.proofs.Starts.ImageCalls.{map_snoc, same_is}
use Rattle.mix_process.proofs.Calling.UntoldSteps.{filled_up, zeros}
use Rattle.mix_process.proofs.Calling.Using.{passes_still}

-- Segments that hold this

pub segments_for : (seg : ℕ) (held : Option (List Page)) → (h : Segments) × (get h.pages seg ≡ held)
segments_for seg None = (no_segments, get-empty nat_cmp seg)
segments_for seg (Some pages) =
    let none : FinMap nat_cmp (List Page) = empty in
    let h : Segments = record { pages = insert none seg pages; denied = [] } in
    (h, get-insert nat_cmp_total none seg pages seg ∙ ap (λ (b : Bool). cond b (Some pages) (get none seg)) (unsigned_tied seg seg ∙ same_is seg seg refl))

-- Images of a machine of processes

image_last : (images : List (ℕ × List Page)) (seg : ℕ) (pages : List Page) → image_in images seg ≡ None → image_in (images ++ (seg, pages) ∷ []) seg ≡ Some pages
image_last [] seg pages e = ap (λ (b : Bool). cond b (Some pages) None) (same_is seg seg refl)
image_last (x ∷ xs) seg pages e = by (x.0 == seg) (image_last xs seg pages) e
  where
    by : (b : Bool) → (image_in xs seg ≡ None → image_in (xs ++ (seg, pages) ∷ []) seg ≡ Some pages) → cond b (Some x.1) (image_in xs seg) ≡ None → cond b (Some x.1) (image_in (xs ++ (seg, pages) ∷ []) seg) ≡ Some pages
    by true rest e = absurd (cc e)
    by false rest e = rest e

pub image_made : (x : ProcessMachine) (seg : ℕ) (held : Option (List Page)) → image_of x seg ≡ None → image_of (with_image x seg held) seg ≡ held
image_made x seg None none = ap (λ (o : Option (List Page)). image_of (imaged x seg o None) seg) none ∙ none
image_made x seg (Some pages) none = ap (λ (o : Option (List Page)). image_of (imaged x seg o (Some pages)) seg) none ∙ image_last x.images seg pages none

image_zeros : (images : List (ℕ × List Page)) (seg : ℕ) → image_in (map (each_in zeros) images) seg ≡ option_map (map zeros) (image_in images seg)
image_zeros [] seg = refl
image_zeros (x ∷ xs) seg = by (x.0 == seg) (image_zeros xs seg)
  where
    by : (b : Bool) → image_in (map (each_in zeros) xs) seg ≡ option_map (map zeros) (image_in xs seg) → cond b (Some (map zeros x.1)) (image_in (map (each_in zeros) xs) seg) ≡ option_map (map zeros) (cond b (Some x.1) (image_in xs seg))
    by true rest = refl
    by false rest = rest

pub image_filled : (x : ProcessMachine) (seg : ℕ) → image_of (filled_up x) seg ≡ option_map (map zeros) (image_of x seg)
image_filled x seg = image_zeros x.images seg

imaged_filled : (x : ProcessMachine) (seg : ℕ) (o : Option (List Page)) (pages : List Page) → filled_up (imaged x seg o (Some pages)) ≡ imaged (filled_up x) seg (option_map (map zeros) o) (Some (map zeros pages))
imaged_filled x seg None pages = λ i. record (filled_up x) { images = map_snoc (each_in zeros) x.images (seg, pages) i }
imaged_filled x seg (Some image) pages = refl

pub with_image_filled : (x : ProcessMachine) (seg : ℕ) (pages : List Page) → filled_up (with_image x seg (Some pages)) ≡ with_image (filled_up x) seg (Some (map zeros pages))
with_image_filled x seg pages = imaged_filled x seg (image_of x seg) pages ∙ ap (λ (o : Option (List Page)). imaged (filled_up x) seg o (Some (map zeros pages))) (sym (image_filled x seg))

-- The rows

is_past : (n k : ℕ) → n < k → nat_lt n k ≡ true
is_past n k less = grind (arith, nat_tests)

not_past : (n k : ℕ) → k ≤ n → nat_lt n k ≡ false
not_past n k less = grind (arith, nat_tests)

module _ (x : ProcessMachine) (seg : SegId) (text data_pages stack : ℕ) where
  abbrev ends : ProcessMachine → Option (List Page) → mix.Answered
  ends y o = mix.with_some o refusals.NoSegment y (λ pages. mix.unless (nat_lt (length pages) (text + data_pages)) refusals.BadImage y (mix.add_process y (process_from x.page_bytes pages text data_pages stack)))

  pub row_large : is_too_large text data_pages stack ≡ true → (held : Option (List Page)) → mix.exec_of x seg.0 text data_pages stack held ≡ mix.refuse x refusals.TooLarge
  unfolding mix.exec_of mix.unless
  row_large large held = ap (λ (b : Bool). mix.unless b refusals.TooLarge x (ends (with_image x seg.0 held) (image_of (with_image x seg.0 held) seg.0))) large

  module _ (fits : is_too_large text data_pages stack ≡ false) where
    row : (held : Option (List Page)) → mix.exec_of x seg.0 text data_pages stack held ≡ ends (with_image x seg.0 held) (image_of (with_image x seg.0 held) seg.0)
    unfolding mix.exec_of mix.unless
    row held = ap (λ (b : Bool). mix.unless b refusals.TooLarge x (ends (with_image x seg.0 held) (image_of (with_image x seg.0 held) seg.0))) fits

    module _ (u v : Usage) (told now : Option Segments) (rises : MapperCounts) (raise : RaisedBy (usage_for 3 0) u v) where
      abbrev Steps : Segments → Trouble → ProcessMachine → Type 0
      Steps h t y = StepOver h (record { processes = x; usage = u; segments = told }) (commands.Exec seg text data_pages stack) (Err t) rises (record { processes = y; usage = v; segments = now })

      raised_by : (h : Segments) (k : ℕ) → makes x (commands.Exec seg text data_pages stack) h ≡ usage_for 3 k → RaisedBy (makes x (commands.Exec seg text data_pages stack) h) u v
      raised_by h k e = subst (λ (more : Usage). RaisedBy more u v) (sym e) (record { actors = raise.actors; caches = raise.caches; regions = raise.regions })

      -- with an image

      module _ (h : Segments) (pages : List Page) (holds : get h.pages seg.0 ≡ Some pages) (has : image_of (with_image x seg.0 (Some pages)) seg.0 ≡ Some pages) where
        abbrev y : ProcessMachine
        y = with_image x seg.0 (Some pages)

        makes_is : makes x (commands.Exec seg text data_pages stack) h ≡ usage_for 3 (length pages + data_pages + stack)
        makes_is = ap (λ (o : Option (List Page)). usage_for 3 (option_map_or length (image_of (with_image x seg.0 o) seg.0) 0 + data_pages + stack)) holds ∙ ap (λ (o : Option (List Page)). usage_for 3 (option_map_or length o 0 + data_pages + stack)) has

        row_some : mix.exec_of x seg.0 text data_pages stack (get h.pages seg.0) ≡ mix.unless (nat_lt (length pages) (text + data_pages)) refusals.BadImage y (mix.add_process y (process_from x.page_bytes pages text data_pages stack))
        unfolding mix.with_some
        row_some = ap (mix.exec_of x seg.0 text data_pages stack) holds ∙ row (Some pages) ∙ ap (ends y) has

        raised : RaisedBy (makes x (commands.Exec seg text data_pages stack) h) u v
        raised = raised_by h (length pages + data_pages + stack) makes_is

        row_bad : length pages < text + data_pages → mix.exec_of x seg.0 text data_pages stack (get h.pages seg.0) ≡ mix.refuse y refusals.BadImage
        unfolding mix.unless
        row_bad less = row_some ∙ ap (λ (b : Bool). mix.unless b refusals.BadImage y (mix.add_process y (process_from x.page_bytes pages text data_pages stack))) (is_past (length pages) (text + data_pages) less)

        row_good : text + data_pages ≤ length pages → mix.exec_of x seg.0 text data_pages stack (get h.pages seg.0) ≡ mix.add_process y (process_from x.page_bytes pages text data_pages stack)
        unfolding mix.unless
        row_good less = row_some ∙ ap (λ (b : Bool). mix.unless b refusals.BadImage y (mix.add_process y (process_from x.page_bytes pages text data_pages stack))) (not_past (length pages) (text + data_pages) less)

        pub step_bad : RaisedBy one_cache u v → length pages < text + data_pages → Steps h (troubles.Refused refusals.BadImage) y
        step_bad one less = record { outcome = row_bad less; raised = one }

        pub step_good : text + data_pages ≤ length pages → StepOver h (record { processes = x; usage = u; segments = told }) (commands.Exec seg text data_pages stack) (Ok (replies.Process (record { 0 = length y.processes + 1 }))) rises
            (record { processes = record y { processes = y.processes ++ Some (process_from x.page_bytes pages text data_pages stack) ∷ [] }; usage = v; segments = now })
        step_good less = record { outcome = row_good less; raised = raised }

        stays : (y ≡ x) ⊎ (y ≡ with_image x seg.0 (get h.pages seg.0))
        stays = inr (ap (with_image x seg.0) (sym holds))

        pub step_lacks : (t : Trouble) → IsLack u (usage_for 3 (length pages + data_pages + stack)) t → Steps h t y
        step_lacks troubles.Memory lack = record { outcome = (stays, tt, fits); raised = raised }
        step_lacks (troubles.Refused refusals.TooMany) lack = record {
          outcome = (stays, tt, fits, subst (λ (more : Usage). IsLack u more (troubles.Refused refusals.TooMany)) (sym makes_is) lack);
          raised = raised;
        }
        step_lacks t lack = absurd lack

      -- without one

      module _ (h : Segments) (held : Option (List Page)) (holds : get h.pages seg.0 ≡ held) (none : image_of x seg.0 ≡ None) where
        makes_none : makes x (commands.Exec seg text data_pages stack) h ≡ usage_for 3 (option_map_or length held 0 + data_pages + stack)
        makes_none = ap (λ (o : Option (List Page)). usage_for 3 (option_map_or length (image_of (with_image x seg.0 o) seg.0) 0 + data_pages + stack)) holds
            ∙ ap (λ (o : Option (List Page)). usage_for 3 (option_map_or length o 0 + data_pages + stack)) (image_made x seg.0 held none)

        raised_none : RaisedBy (makes x (commands.Exec seg text data_pages stack) h) u v
        raised_none = raised_by h (option_map_or length held 0 + data_pages + stack) makes_none

        pub step_memory : Steps h troubles.Memory x
        step_memory = record { outcome = (inl refl, tt, fits); raised = raised_none }

        pub step_fault : 0 < rises.faults → u.caches < MOST_MADE → Steps h (troubles.Mapper faults.Opening) x
        step_fault faulted few = record { outcome = (refl, faulted, (none, few), fits); raised = raised_none }

        more : IsWithin (usage_sum u (usage_to_open held)) (usage_sum u (usage_for 3 (option_map_or length held 0 + data_pages + stack)))
        more = record { living = omega arith; actors = omega arith; caches = omega arith; regions = omega arith; pages = omega arith }

        pub step_many : IsTrue (would_pass u (usage_to_open held)) → Steps h (troubles.Refused refusals.TooMany) x
        step_many many = record {
          outcome = (inl refl, tt, fits, subst (λ (k : Usage). IsTrue (would_pass u k)) (sym makes_none) (passes_still u (usage_for 3 (option_map_or length held 0 + data_pages + stack)) u (usage_to_open held) more many));
          raised = raised_none;
        }

        row_nothing : held ≡ None → mix.exec_of x seg.0 text data_pages stack (get h.pages seg.0) ≡ mix.refuse x refusals.NoSegment
        unfolding mix.with_some
        row_nothing nothing = ap (mix.exec_of x seg.0 text data_pages stack) (holds ∙ nothing) ∙ row None ∙ ap (λ (o : Option (List Page)). ends (imaged x seg.0 o None) (image_of (imaged x seg.0 o None) seg.0)) none ∙ ap (ends x) none

        pub step_nothing : RaisedBy one_cache u v → held ≡ None → Steps h (troubles.Refused refusals.NoSegment) x
        step_nothing one nothing = record { outcome = row_nothing nothing; raised = one }

-- The process, filled with zeros

pub process_filled : (pages : List Page) (text data_pages stack : ℕ)
    → each_of zeros (record { text_pages = take text pages; data_pages = take data_pages (drop text pages); stack_pages = replicate stack []; pieces = data_pages ∷ [] }) ≡ process_from 4096 (map zeros pages) text data_pages stack
process_filled pages text data_pages stack = λ i. record {
  text_pages = sym (take-map zeros text pages) i;
  data_pages = (sym (take-map zeros data_pages (drop text pages)) ∙ ap (take data_pages) (sym (drop-map zeros text pages))) i;
  stack_pages = map-replicate zeros stack [] i;
  pieces = data_pages ∷ [];
}
