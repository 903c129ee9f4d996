-- Rows of the table of answers, for the plain machine, and that an image that was opened can be
-- taken back.
use Rattle.std.proofs.Common.{◌≡◌, ◌+◌, ◌≤◌, ℕ, Bool, false, List, [], ◌∷◌, length, take, Option, Some, None, ap, ◌∙◌, arith}
use Rattle.std.specs.Prelude.{nat_lt}
use Rattle.std.proofs.lemmas.Bool.Decides.{nat_tests}
use Rattle.std.proofs.Math.Seq.{take-append_seam, take-length}
use Rattle.vm_ids.specs.declared.refusal.Refusal.TheVariants as refusals
use Rattle.interface_callers.proofs.Words.{Page}
use Rattle.mix_process.specs.Answering.{add_process, imaged, process_from, unless, with_image, with_some}
use Rattle.mix_process.specs.Plain.{exec_ends}
use Rattle.mix_process.specs.ProcessMachine.{ProcessMachine, image_of}

-- an exec whose image has pages enough
pub ends_good : (m : ProcessMachine) (text data_pages stack : ℕ) (pages : List Page) (o : Option (List Page)) → o ≡ Some pages → text + data_pages ≤ length pages
    → exec_ends m text data_pages stack o ≡ add_process m (process_from m.page_bytes pages text data_pages stack)
unfolding unless with_some
ends_good m text data_pages stack pages o is enough =
    let good : nat_lt (length pages) (text + data_pages) ≡ false = grind (arith, nat_tests) in
    ap (exec_ends m text data_pages stack) is
    ∙ ap (λ (b : Bool). unless b refusals.BadImage m (add_process m (process_from m.page_bytes pages text data_pages stack))) good

abbrev cut : ProcessMachine → ℕ → ProcessMachine
cut m n = record { page_bytes = m.page_bytes; processes = m.processes; images = take n m.images }

cut_back : (m : ProcessMachine) (seg : ℕ) (o held : Option (List Page)) → cut (imaged m seg o held) (length m.images) ≡ m
cut_back m seg (Some image) held = ap (λ (images : List (ℕ × List Page)). record m { images = images }) (take-length m.images)
cut_back m seg None None = ap (λ (images : List (ℕ × List Page)). record m { images = images }) (take-length m.images)
cut_back m seg None (Some pages) = ap (λ (images : List (ℕ × List Page)). record m { images = images }) (take-append_seam m.images ((seg, pages) ∷ []))

-- the images that came go again
pub taken_back : (m next : ProcessMachine) (seg : ℕ) (held : Option (List Page)) (n : ℕ) (images : List (ℕ × List Page)) → next ≡ with_image m seg held → n ≡ length m.images → images ≡ take n next.images
    → (record { page_bytes = next.page_bytes; processes = next.processes; images = images }) ≡ m
taken_back m next seg held n images is many cuts =
    ap (λ (xs : List (ℕ × List Page)). record { page_bytes = next.page_bytes; processes = next.processes; images = xs }) cuts
    ∙ ap (cut next) many ∙ ap (λ (x : ProcessMachine). cut x (length m.images)) is ∙ cut_back m seg (image_of m seg) held
