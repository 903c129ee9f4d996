-- The definitions compute the worked script of two pages in transit.
use Rattle.std.proofs.Common.{◌≡◌, ◌+◌, ◌<◌, ℕ, Bool, true, false, List, [], ◌∷◌, Option, None, Some, refl, arith, inl, inr}
use Rattle.std.specs.Prelude.{length, slice_get, Ok, Err}
use Rattle.std.specs.List.{AllByRecursion}
use Rattle.std.proofs.lemmas.List.Elements.{All-from_recursion}
use Rattle.vm_ids.specs.Counting.{MapperCounts, no_counts}
use Rattle.vm_ids.specs.declared.command.Command.{Command}
use Rattle.vm_ids.specs.declared.command.Command.TheVariants as commands
use Rattle.vm_ids.specs.declared.reply.FaultAt.TheVariants as faults
use Rattle.vm_ids.specs.declared.reply.Reply.TheVariants as replies
use Rattle.vm_ids.specs.declared.reply.Trouble.TheVariants.{Mapper}
use Rattle.vm_ids.specs.Forest.Nodes.{no_forest}
use Rattle.vm_model.specs.Machine.{Cache, Machine, start}
use Rattle.vm_model.specs.PageForest.{PageForest}
use Rattle.vm_model.specs.Answering.{Answer, answer_of}
use Rattle.vm_model.specs.Asking.{ReachesMapper}
use Rattle.vm_model.specs.Following.{forest_after}
use Rattle.vm_model.specs.Outcome.{HasWholePages, IsWhole, Outcome}
use Rattle.vm_model.specs.Synchronised.{IsSynchronised}
use Rattle.vm_model.specs.Run.{IsAnswered, Read, State, command_semantics}
use Rattle.vm_model.specs.Events.{IsDelivery, IsLine, IsPark, IsPause, Stand}
use Rattle.vm_model.specs.Events.IsParted.{ended, left}
use Rattle.vm_model.specs.Rows.{no_segments, ok, ok_a, ok_byte, ok_c, ok_r, ok_stat, store, temp}
use Rattle.vm_model.specs.Transit.{FirstOfTwoPagesFails, TwoPagesInTransit, first_load, first_load_fails, load_by, map_for, one_failed_pull, one_pull, second_load, step_at, two_loads, two_pushes}
use Rattle.vm_model.proofs.WholeRuns.Played.{computes}

some_pull : 0 < 1
some_pull = omega arith

-- the machine and its forest
record Kept : Type 0 where
  machine : Machine
  forest : PageForest

-- behind an answer of the machine's own
abbrev goes_on : Kept → Command → Answer → Kept
goes_on k c answer =
    let next : Machine = (answer_of k.machine k.forest c no_segments).next in
    record { machine = next; forest = forest_after k.forest k.machine c answer next }

abbrev state : Kept → State
state k = record { machine = k.machine; forest = Some k.forest; segments = Some no_segments }

-- the pages of each cache, by recursion on the lists
abbrev WholeCache : ℕ → Option Cache → Type 0
WholeCache n None = Unit {0}
WholeCache n (Some c) = AllByRecursion (λ (p : List ℕ). length p ≡ n) c.pages

whole_cache : (n : ℕ) (c : Option Cache) → WholeCache n c → IsWhole n c
whole_cache n None h = tt
whole_cache n (Some c) h = All-from_recursion (λ (p : List ℕ). length p ≡ n) c.pages h

whole_caches : (n : ℕ) (cs : List (Option Cache)) → AllByRecursion (WholeCache n) cs → AllByRecursion (IsWhole n) cs
whole_caches n [] h = tt
whole_caches n (c ∷ cs) h = (whole_cache n c h.0, whole_caches n cs h.1)

whole : (m : Machine) → AllByRecursion (WholeCache m.page_bytes) m.caches → HasWholePages m
whole m h = All-from_recursion (IsWhole m.page_bytes) m.caches (whole_caches m.page_bytes m.caches h)

-- an answer that pushes no page of a segment
answered : (k : Kept) (c : Command) (answer : Answer) (next : Machine) (rises : MapperCounts)
    → Outcome k.machine (Some k.forest) c no_segments answer next rises → ReachesMapper c rises → IsSynchronised k.machine (Some no_segments) c answer → HasWholePages next
    → IsAnswered (state k) (Ok c) answer rises (state (record { machine = next; forest = forest_after k.forest k.machine c answer next }))
answered k c answer next rises outcome reaches synchronised has = (
  [],
  record {
    outcome = outcome;
    forest = refl;
    reaches = reaches;
    few = omega arith;
    pushed = record { may = tt; pushed = refl };
    synchronised = synchronised;
    whole = has;
  },
)

-- a stand where these lines are parked
abbrev stand : Kept → List (ℕ × Read) → ℕ → Bool → Stand command_semantics
stand k parked issued asking = record { state = state k; parked = parked; issued = issued; asking = asking }

-- a line is answered where nothing is parked
line_is : (k : Kept) (n : ℕ) (c : Command) (answer : Answer) (rises : MapperCounts)
    → slice_get two_loads n ≡ Some (Ok c) → rises.pulls ≡ 0 → IsAnswered (state k) (Ok c) answer rises (state (goes_on k c answer))
    → IsLine command_semantics two_loads (stand k [] n true) (step_at (n + 1) c answer rises) (stand (goes_on k c answer) [] (n + 1) true)
line_is k n c answer rises comes quiet is = record { free = refl; comes = comes; number = refl; is = is; no_pull = λ h. quiet; leaves = refl }

-- The machine and its forest behind each line.

abbrev k0 : Kept
k0 = record { machine = start 4 2; forest = no_forest }

abbrev k1 : Kept
k1 = goes_on k0 commands.MakeActor (ok_a 1)

abbrev k2 : Kept
k2 = goes_on k1 commands.MakeActor (ok_a 2)

abbrev k3 : Kept
k3 = goes_on k2 (temp 2) (ok_c 1)

abbrev k4 : Kept
k4 = goes_on k3 (map_for 1) (ok_r 1)

abbrev k5 : Kept
k5 = goes_on k4 (map_for 2) (ok_r 2)

abbrev k6 : Kept
k6 = goes_on k5 (store 65536 1) ok

abbrev k7 : Kept
k7 = goes_on k6 (store 65538 2) ok

abbrev k8 : Kept
k8 = goes_on k7 (commands.PageOut 4) ok

line1 : IsLine command_semantics two_loads (stand k0 [] 0 true) (step_at 1 commands.MakeActor (ok_a 1) no_counts) (stand k1 [] 1 true)
unfolding computes
line1 = line_is k0 0 commands.MakeActor (ok_a 1) no_counts refl refl (answered k0 commands.MakeActor (ok_a 1) k1.machine no_counts refl refl tt (whole k1.machine tt))

line2 : IsLine command_semantics two_loads (stand k1 [] 1 true) (step_at 2 commands.MakeActor (ok_a 2) no_counts) (stand k2 [] 2 true)
unfolding computes
line2 = line_is k1 1 commands.MakeActor (ok_a 2) no_counts refl refl (answered k1 commands.MakeActor (ok_a 2) k2.machine no_counts refl refl tt (whole k2.machine tt))

line3 : IsLine command_semantics two_loads (stand k2 [] 2 true) (step_at 3 (temp 2) (ok_c 1) no_counts) (stand k3 [] 3 true)
unfolding computes
line3 = line_is k2 2 (temp 2) (ok_c 1) no_counts refl refl (answered k2 (temp 2) (ok_c 1) k3.machine no_counts refl refl tt (whole k3.machine ((refl, (refl, tt)), tt)))

line4 : IsLine command_semantics two_loads (stand k3 [] 3 true) (step_at 4 (map_for 1) (ok_r 1) no_counts) (stand k4 [] 4 true)
unfolding computes
line4 = line_is k3 3 (map_for 1) (ok_r 1) no_counts refl refl (answered k3 (map_for 1) (ok_r 1) k4.machine no_counts refl refl tt (whole k4.machine ((refl, (refl, tt)), tt)))

line5 : IsLine command_semantics two_loads (stand k4 [] 4 true) (step_at 5 (map_for 2) (ok_r 2) no_counts) (stand k5 [] 5 true)
unfolding computes
line5 = line_is k4 4 (map_for 2) (ok_r 2) no_counts refl refl (answered k4 (map_for 2) (ok_r 2) k5.machine no_counts refl refl tt (whole k5.machine ((refl, (refl, tt)), tt)))

line6 : IsLine command_semantics two_loads (stand k5 [] 5 true) (step_at 6 (store 65536 1) ok no_counts) (stand k6 [] 6 true)
unfolding computes
line6 = line_is k5 5 (store 65536 1) ok no_counts refl refl (answered k5 (store 65536 1) ok k6.machine no_counts refl tt tt (whole k6.machine ((refl, (refl, tt)), tt)))

line7 : IsLine command_semantics two_loads (stand k6 [] 6 true) (step_at 7 (store 65538 2) ok no_counts) (stand k7 [] 7 true)
unfolding computes
line7 = line_is k6 6 (store 65538 2) ok no_counts refl refl (answered k6 (store 65538 2) ok k7.machine no_counts refl tt tt (whole k7.machine ((refl, (refl, tt)), tt)))

line8 : IsLine command_semantics two_loads (stand k7 [] 7 true) (step_at 8 (commands.PageOut 4) ok two_pushes) (stand k8 [] 8 true)
unfolding computes
line8 = line_is k7 7 (commands.PageOut 4) ok two_pushes refl refl (answered k7 (commands.PageOut 4) ok k8.machine two_pushes refl tt tt (whole k8.machine ((refl, (refl, tt)), tt)))

line11 : IsLine command_semantics two_loads (stand k8 [] 10 false) (step_at 11 commands.Stat (ok_stat 2 0 0) no_counts) (stand k8 [] 11 true)
unfolding computes
line11 = record {
  free = refl;
  comes = refl;
  number = refl;
  is = answered k8 commands.Stat (ok_stat 2 0 0) k8.machine no_counts refl refl tt (whole k8.machine ((refl, (refl, tt)), tt));
  no_pull = λ h. refl;
  leaves = refl;
}

abbrev nine : ℕ × Read
nine = (9, Ok (load_by 1 65536))

abbrev ten : ℕ × Read
ten = (10, Ok (load_by 2 65538))

park9 : IsPark command_semantics two_loads (stand k8 [] 8 true) 9 (Ok (load_by 1 65536)) (stand k8 (nine ∷ []) 9 true)
unfolding computes
park9 = record {
  free = refl;
  comes = refl;
  number_is = refl;
  access = refl;
  admitted = record { reply = replies.Bytes (1 ∷ []); next = k8.machine; outcome = refl };
  leaves = refl;
}

park10 : IsPark command_semantics two_loads (stand k8 (nine ∷ []) 9 false) 10 (Ok (load_by 2 65538)) (stand k8 (nine ∷ ten ∷ []) 10 true)
unfolding computes
park10 = record {
  free = refl;
  comes = refl;
  number_is = refl;
  access = refl;
  admitted = record { reply = replies.Bytes (2 ∷ []); next = k8.machine; outcome = refl };
  leaves = refl;
}

pause9 : IsPause command_semantics two_loads (stand k8 (nine ∷ []) 9 true) (stand k8 (nine ∷ []) 9 false)
pause9 = record { asked = refl; first = refl; leaves = refl }

pause10 : IsPause command_semantics two_loads (stand k8 (nine ∷ ten ∷ []) 10 true) (stand k8 (nine ∷ ten ∷ []) 10 false)
pause10 = record { asked = refl; first = refl; leaves = refl }

-- the loads, whichever comes first

first_answered : IsAnswered (state k8) (Ok (load_by 1 65536)) (ok_byte 1) one_pull (state k8)
unfolding computes
first_answered = answered k8 (load_by 1 65536) (ok_byte 1) k8.machine one_pull refl tt tt (whole k8.machine ((refl, (refl, tt)), tt))

second_answered : IsAnswered (state k8) (Ok (load_by 2 65538)) (ok_byte 2) one_pull (state k8)
unfolding computes
second_answered = answered k8 (load_by 2 65538) (ok_byte 2) k8.machine one_pull refl tt tt (whole k8.machine ((refl, (refl, tt)), tt))

abbrev fault : Answer
fault = Err (Mapper (faults.Page (record { 0 = 0 })))

first_fails : IsAnswered (state k8) (Ok (load_by 1 65536)) fault one_failed_pull (state k8)
unfolding computes
first_fails = answered k8 (load_by 1 65536) fault k8.machine one_failed_pull (refl, some_pull, (refl, some_pull), tt) tt tt (whole k8.machine ((refl, (refl, tt)), tt))

-- by the second turn the later one is delivered, and then the other
second_first : IsDelivery command_semantics two_loads (stand k8 (nine ∷ ten ∷ []) 10 false) (Some 1) 1 second_load [] (stand k8 (nine ∷ []) 10 false)
second_first = record {
  asked = refl;
  place_is = refl;
  first_is = refl;
  came = inl some_pull;
  others_are = left ended;
  no_pull = tt;
  chain = (state k8, second_answered, refl);
  leaves = refl;
}

first_then : IsDelivery command_semantics two_loads (stand k8 (nine ∷ []) 10 false) None 0 first_load [] (stand k8 [] 10 false)
first_then = record {
  asked = refl;
  place_is = refl;
  first_is = refl;
  came = inl some_pull;
  others_are = ended;
  no_pull = tt;
  chain = (state k8, first_answered, refl);
  leaves = refl;
}

-- the oldest is delivered, which fails, and then the other
failed_first : IsDelivery command_semantics two_loads (stand k8 (nine ∷ ten ∷ []) 10 false) None 0 first_load_fails [] (stand k8 (ten ∷ []) 10 false)
failed_first = record {
  asked = refl;
  place_is = refl;
  first_is = refl;
  came = inr tt;
  others_are = left ended;
  no_pull = tt;
  chain = (state k8, first_fails, refl);
  leaves = refl;
}

second_then : IsDelivery command_semantics two_loads (stand k8 (ten ∷ []) 10 false) None 0 second_load [] (stand k8 [] 10 false)
second_then = record {
  asked = refl;
  place_is = refl;
  first_is = refl;
  came = inl some_pull;
  others_are = ended;
  no_pull = tt;
  chain = (state k8, second_answered, refl);
  leaves = refl;
}

abbrev at_end : Stand command_semantics
at_end = stand k8 [] 11 true

pub two_pages_in_transit : TwoPagesInTransit
two_pages_in_transit = record {
  last = at_end;
  run = (
    stand k1 [] 1 true,
    line1,
    (
      stand k2 [] 2 true,
      line2,
      (
        stand k3 [] 3 true,
        line3,
        (
          stand k4 [] 4 true,
          line4,
          (
            stand k5 [] 5 true,
            line5,
            (
              stand k6 [] 6 true,
              line6,
              (
                stand k7 [] 7 true,
                line7,
                (
                  stand k8 [] 8 true,
                  line8,
                  (
                    stand k8 (nine ∷ []) 9 true,
                    park9,
                    (
                      stand k8 (nine ∷ []) 9 false,
                      pause9,
                      (
                        stand k8 (nine ∷ ten ∷ []) 10 true,
                        park10,
                        (
                          stand k8 (nine ∷ ten ∷ []) 10 false,
                          pause10,
                          (
                            stand k8 (nine ∷ []) 10 false,
                            second_first,
                            (
                              stand k8 [] 10 false,
                              first_then,
                              (at_end, line11, refl),
                            ),
                          ),
                        ),
                      ),
                    ),
                  ),
                ),
              ),
            ),
          ),
        ),
      ),
    ),
  );
  over = record { parked = refl; issued = refl };
  turns_are = (refl, (refl, (refl, (refl, refl))));
  order = refl;
}

pub first_of_two_pages_fails : FirstOfTwoPagesFails
first_of_two_pages_fails = record {
  last = at_end;
  run = (
    stand k1 [] 1 true,
    line1,
    (
      stand k2 [] 2 true,
      line2,
      (
        stand k3 [] 3 true,
        line3,
        (
          stand k4 [] 4 true,
          line4,
          (
            stand k5 [] 5 true,
            line5,
            (
              stand k6 [] 6 true,
              line6,
              (
                stand k7 [] 7 true,
                line7,
                (
                  stand k8 [] 8 true,
                  line8,
                  (
                    stand k8 (nine ∷ []) 9 true,
                    park9,
                    (
                      stand k8 (nine ∷ []) 9 false,
                      pause9,
                      (
                        stand k8 (nine ∷ ten ∷ []) 10 true,
                        park10,
                        (
                          stand k8 (nine ∷ ten ∷ []) 10 false,
                          pause10,
                          (
                            stand k8 (ten ∷ []) 10 false,
                            failed_first,
                            (
                              stand k8 [] 10 false,
                              second_then,
                              (at_end, line11, refl),
                            ),
                          ),
                        ),
                      ),
                    ),
                  ),
                ),
              ),
            ),
          ),
        ),
      ),
    ),
  );
  over = record { parked = refl; issued = refl };
  turns_are = (refl, (refl, (refl, (refl, refl))));
  order = refl;
}
