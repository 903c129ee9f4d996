-- What lasts of a process whatever is answered, and what a load answers.
use Rattle.std.proofs.Common.{◌≡◌, ◌≢◌, ◌⊎◌, inl, inr, ◌==◌, ℕ, ◌+◌, ◌-◌, ◌<◌, ◌≤◌, Bool, true, false, List, [], ◌∷◌, ◌++◌, length, set, take, drop, Option, Some, None, refl, sym, ap, subst, ◌∙◌, arith}
use Rattle.std.specs.Prelude.{◌&&◌, Ok, Err, Result, nat_le, nat_lt, slice_get}
use Rattle.std.specs.List.{AllByRecursion}
use Rattle.std.proofs.lemmas.Bool.{cases_eq}
use Rattle.std.proofs.lemmas.Bool.Decides.{nat_tests}
use Rattle.vm_ids.specs.declared.command.MixCommand.{MixCommand}
use Rattle.vm_ids.specs.declared.command.MixCommand.TheVariants as commands
use Rattle.vm_ids.specs.declared.refusal.Refusal.TheVariants as refusals
use Rattle.vm_ids.specs.declared.reply.Reply.TheVariants as replies
use Rattle.vm_ids.specs.declared.reply.Trouble.TheVariants as troubles
use Rattle.vm_model.proofs.Parts.Lists.{get_set_other, get_set_same, numbered_place}
use Rattle.std.proofs.lemmas.Option.{slice_get_within}
use Rattle.interface_callers.proofs.Words.{Answer, MapperCounts, Page, Refusal, Segments}
use Rattle.interface_callers.proofs.Lists.{get_append, get_last, number_at}
use Rattle.mix_process.specs.ProcessMachine.{Place, Process, ProcessMachine, image_of, place, place_of, process_of}
use Rattle.mix_process.specs.Answering.{Answered, add_process, answer_of, exec_of, exit_of, fork_of, grow_of, grown_by, imaged, load_of, page_at, process_from, reply, store_of, with_image, with_ok, with_some, written_at}
use Rattle.mix_process.specs.Outcome.{Outcome, Stays, Usage}
use Rattle.mix_process.specs.Laws.{Chain, ForksAreOfOneMoment, LoadsAreOfBytes, Step, byte_in, byte_of, stores_at}
use Rattle.mix_process.proofs.Reading.Areas.{HasByte, byte_on, byte_there, grown_keeps, has_byte, placed, stored_keeps}
use Rattle.mix_process.proofs.Reading.Places.{get_drop, get_take}
use Rattle.mix_process.proofs.Definition.Rows.{each_ok, each_some, each_unless}

-- it has the byte, or it ended
abbrev Has : ℕ → ℕ → Option Process → Type 0
Has address byte None = Unit {0}
Has address byte (Some p) = HasByte p address byte

-- The process with number q was made; and it has this byte at the address, or it ended.
record Lasts (q address byte : ℕ) (ps : List (Option Process)) : Type 0 where
  pub some : 1 ≤ q
  pub at : Option Process
  pub there : slice_get ps (q - 1) ≡ Some at
  pub has : Has address byte at

appended : (q address byte : ℕ) (ps : List (Option Process)) (p : Option Process) → Lasts q address byte ps → Lasts q address byte (ps ++ p ∷ [])
appended q address byte ps p h = record { some = h.some; at = h.at; there = get_append ps (p ∷ []) (q - 1) h.at h.there; has = h.has }

replaced : (q address byte : ℕ) (ps : List (Option Process)) (k : ℕ) (p : Option Process) → (k ≡ q - 1) ⊎ (k ≢ q - 1) → (k ≡ q - 1 → Has address byte p) → Lasts q address byte ps → Lasts q address byte (set ps k p)
replaced q address byte ps k p (inl same) has h = record {
  some = h.some;
  at = p;
  there = ap (slice_get (set ps k p)) (sym same) ∙ get_set_same ps k p (slice_get_within ps k h.at (ap (slice_get ps) same ∙ h.there));
  has = has same;
}
replaced q address byte ps k p (inr other) has h = record {
  some = h.some;
  at = h.at;
  there = get_set_other ps k (q - 1) p (λ e. other (sym e)) ∙ h.there;
  has = h.has;
}

-- the process that stands where this one is
there_has : (q address byte : ℕ) (ps : List (Option Process)) (k : ℕ) (p : Process) → k ≡ q - 1 → slice_get ps k ≡ Some (Some p) → Lasts q address byte ps → HasByte p address byte
there_has q address byte ps k p same e h =
    let is : h.at ≡ Some p = let f : slice_get ps k ≡ Some h.at = ap (slice_get ps) same ∙ h.there in cc in
    subst (Has address byte) is h.has

-- Rows

record IsKept (q address byte : ℕ) (m : ProcessMachine) : Type 0 where
  pub bytes : m.page_bytes ≡ 4096
  pub lasts : Lasts q address byte m.processes

module _ (q address byte : ℕ) where
  abbrev Keeps : Answered → Type 0
  Keeps a = IsKept q address byte a.next

  kept_image : (m : ProcessMachine) (seg : ℕ) (o held : Option (List Page)) → IsKept q address byte m → IsKept q address byte (imaged m seg o held)
  kept_image m seg (Some image) held k = k
  kept_image m seg None None k = k
  kept_image m seg None (Some pages) k = record { bytes = k.bytes; lasts = k.lasts }

  added : (m : ProcessMachine) (p : Process) → IsKept q address byte m → Keeps (add_process m p)
  added m p k = record { bytes = k.bytes; lasts = appended q address byte m.processes (Some p) k.lasts }

  module _ (m : ProcessMachine) (k : IsKept q address byte m) where
    exec_keeps : (seg text data_pages stack : ℕ) (held : Option (List Page)) → Keeps (exec_of m seg text data_pages stack held)
    unfolding exec_of
    exec_keeps seg text data_pages stack held =
        let next : ProcessMachine = with_image m seg held in
        let kept : IsKept q address byte next = kept_image m seg (image_of m seg) held k in
        each_unless Keeps _ _ m _ k (λ small. each_some Keeps (image_of next seg) _ next _ kept (λ pages is. each_unless Keeps _ _ next _ kept (λ enough. added next (process_from m.page_bytes pages text data_pages stack) kept)))

    fork_keeps : (n : ℕ) → Keeps (fork_of m n)
    unfolding fork_of
    fork_keeps n = each_some Keeps _ _ m _ k (λ p is. added m p k)

    exit_keeps : (n : ℕ) → Keeps (exit_of m n)
    unfolding exit_of
    exit_keeps n = each_some Keeps _ _ m _ k (λ p is. record { bytes = k.bytes; lasts = replaced q address byte m.processes (n - 1) None (cases_eq (n - 1) (q - 1)) (λ same. tt) k.lasts })

    grow_keeps : (n pages : ℕ) → Keeps (grow_of m n pages)
    unfolding grow_of
    grow_keeps n pages = each_some Keeps (process_of m n) _ m _ k (λ p is. each_unless Keeps _ _ m _ k (λ few. record {
      bytes = k.bytes;
      lasts = replaced q address byte m.processes (n - 1) (Some (grown_by m.page_bytes pages p)) (cases_eq (n - 1) (q - 1))
          (λ same. grown_keeps p m.page_bytes pages address byte (grind (arith, nat_tests)) (there_has q address byte m.processes (n - 1) p same (numbered_place m.processes n p is).1 k.lasts))
          k.lasts;
    }))

    load_keeps : (n first bytes : ℕ) → Keeps (load_of m n first bytes)
    unfolding load_of
    load_keeps n first bytes = each_ok Keeps _ m _ (λ r. k) (λ at is. k)

-- an access is of a living process
alive : (bytes : ℕ) (o : Option Process) (first n : ℕ) (at : Place) → place_of bytes o first n ≡ Ok at → (p : Process) × (o ≡ Some p) × (place_of bytes (Some p) first n ≡ Ok at)
alive bytes None first n at e = absurd (cc e)
alive bytes (Some p) first n at e = (p, refl, e)

-- numbers that aren't 0 are the same where the places before them are
same_number : (q n : ℕ) → 1 ≤ q → 1 ≤ n → n - 1 ≡ q - 1 → n ≡ q
same_number q n a b e = omega arith

-- bytes that aren't stored at an address are stored in front of it or behind it
outside : (q n address first bytes : ℕ) → n ≡ q → (n == q && nat_le first address && nat_lt address (first + bytes)) ≡ false → (address < first) ⊎ (first + bytes ≤ address)
outside q n address first bytes same e = go (nat_lt address first) refl
  where
    go : (b : Bool) → nat_lt address first ≡ b → (address < first) ⊎ (first + bytes ≤ address)
    go true f = inl (grind (arith, nat_tests))
    go false f = inr (grind (arith, nat_tests))

store_keeps : (q address byte : ℕ) (m : ProcessMachine) (k : IsKept q address byte m) (n first : ℕ) (part : List ℕ)
    → (n == q && nat_le first address && nat_lt address (first + length part)) ≡ false → Keeps q address byte (store_of m n first part)
unfolding store_of
store_keeps q address byte m k n first part out = each_ok (Keeps q address byte) (place m n first (length part)) m _ (λ r. k) (λ at is. each_unless (Keeps q address byte) _ _ m _ k (λ writes.
    let living = alive m.page_bytes (process_of m n) first (length part) at is in
    let p : Process = living.0 in
    let there = numbered_place m.processes n p living.1 in
    record {
      bytes = k.bytes;
      lasts = replaced q address byte m.processes (n - 1) (Some (written_at at part)) (cases_eq (n - 1) (q - 1))
          (λ same. stored_keeps p first part at address byte
          (placed p first (length part) at (subst (λ (b : ℕ). place_of b (Some p) first (length part) ≡ Ok at) k.bytes living.2))
          (outside q n address first (length part) (same_number q n k.lasts.some there.0 same) out)
          (there_has q address byte m.processes (n - 1) p same there.1 k.lasts))
          k.lasts;
    }))

row_keeps : (q address byte : ℕ) (m : ProcessMachine) (k : IsKept q address byte m) (c : MixCommand) (h : Segments) → stores_at q address c ≡ false → Keeps q address byte (answer_of m c h)
row_keeps q address byte m k (commands.Exec seg text data_pages stack) h out = exec_keeps q address byte m k seg.0 text data_pages stack _
row_keeps q address byte m k (commands.Fork process) h out = fork_keeps q address byte m k process.0
row_keeps q address byte m k (commands.Exit process) h out = exit_keeps q address byte m k process.0
row_keeps q address byte m k (commands.Grow process pages) h out = grow_keeps q address byte m k process.0 pages
row_keeps q address byte m k (commands.Load process first length) h out = load_keeps q address byte m k process.0 first length
row_keeps q address byte m k (commands.Store process first piece) h out = store_keeps q address byte m k process.0 first piece out
row_keeps q address byte m k (commands.PageOut count) h out = k

-- Answers

module _ (q address byte : ℕ) (m : ProcessMachine) (k : IsKept q address byte m) (h : Segments) (next : ProcessMachine) where
  same_keeps : next ≡ m → IsKept q address byte next
  same_keeps e = subst (IsKept q address byte) (sym e) k

  stays : (c : MixCommand) → Stays m c h next → IsKept q address byte next
  stays (commands.Exec seg text data_pages stack) (inl e) = same_keeps e
  stays (commands.Exec seg text data_pages stack) (inr e) = subst (IsKept q address byte) (sym e) (kept_image q address byte m seg.0 (image_of m seg.0) _ k)
  stays (commands.Fork process) e = same_keeps e
  stays (commands.Exit process) e = same_keeps e
  stays (commands.Grow process pages) e = same_keeps e
  stays (commands.Load process first length) e = same_keeps e
  stays (commands.Store process first piece) e = same_keeps e
  stays (commands.PageOut count) e = same_keeps e

  row_is : (c : MixCommand) (a : Answered) → stores_at q address c ≡ false → answer_of m c h ≡ a → IsKept q address byte a.next
  row_is c a out e = subst (Keeps q address byte) e (row_keeps q address byte m k c h out)

  answer_keeps : (u : Usage) (c : MixCommand) (a : Answer) (rises : MapperCounts) → stores_at q address c ≡ false → Outcome m u c h a next rises → IsKept q address byte next
  answer_keeps u c (Err (troubles.Mapper at)) rises out o = same_keeps o.0
  answer_keeps u c (Err troubles.Memory) rises out o = stays c o.0
  answer_keeps u c (Err (troubles.Refused refusals.TooMany)) rises out o = stays c o.0
  answer_keeps u c (Err (troubles.Refused r)) rises out o = row_is c _ out o
  answer_keeps u c (Ok r) rises out o = row_is c _ out o

chain_keeps : (q address byte : ℕ) (m : ProcessMachine) (steps : List Step) (after : ProcessMachine) → IsKept q address byte m → Chain m steps after → AllByRecursion (λ (s : Step). stores_at q address s.command ≡ false) steps → IsKept q address byte after
chain_keeps q address byte m [] after k c out = subst (IsKept q address byte) (sym c) k
chain_keeps q address byte m (s ∷ steps) after k c out =
    chain_keeps q address byte c.0 steps after (answer_keeps q address byte m k s.segments c.0 s.usage s.command s.answer s.rises out.0 c.1) c.2 out.1

-- what lasts is read
lasting : (m : ProcessMachine) (q address byte : ℕ) → IsKept q address byte m → (process_of m q ≡ None) ⊎ (byte_of m q address ≡ Some byte)
lasting m q address byte k = go k.lasts.at (number_at m.processes q k.lasts.at k.lasts.some k.lasts.there) k.lasts.has
  where
    go : (o : Option Process) → process_of m q ≡ o → Has address byte o → (process_of m q ≡ None) ⊎ (byte_of m q address ≡ Some byte)
    go None e has = inl e
    go (Some p) e has = inr ((λ i. byte_in (place_of (k.bytes i) (e i) address 1)) ∙ byte_there p address byte has)

-- The fork

-- a fork that was answered is of a living process
record Forked (m next : ProcessMachine) (parent child : ℕ) : Type 0 where
  pub process : Process
  pub there : process_of m parent ≡ Some process
  pub child_is : child ≡ length m.processes + 1
  pub next_is : next ≡ record m { processes = m.processes ++ Some process ∷ [] }

abbrev process_made : Answer → ℕ
process_made (Ok (replies.Process process)) = process.0
process_made answer = 0

forked_at : (m next : ProcessMachine) (parent child : ℕ) (o : Option Process) → process_of m parent ≡ o
    → with_some o refusals.NoProcess m (λ p. add_process m p) ≡ record { answer = Ok (replies.Process (record { 0 = child })); next = next } → Forked m next parent child
unfolding with_some
forked_at m next parent child None e h = absurd (cc (ap (λ (a : Answered). a.answer) h))
forked_at m next parent child (Some p) e h =
    record { process = p; there = e; child_is = sym (ap (λ (a : Answered). process_made a.answer) h); next_is = sym (ap (λ (a : Answered). a.next) h) }

forked : (m next : ProcessMachine) (parent child : ℕ) → fork_of m parent ≡ record { answer = Ok (replies.Process (record { 0 = child })); next = next } → Forked m next parent child
unfolding fork_of
forked m next parent child h = forked_at m next parent child (process_of m parent) refl h

starts : (m next : ProcessMachine) (parent child q address byte : ℕ) → m.page_bytes ≡ 4096 → (f : Forked m next parent child) → (q ≡ parent) ⊎ (q ≡ child) → HasByte f.process address byte → IsKept q address byte next
starts m next parent child q address byte bytes f which has = record {
  bytes = ap (λ (m : ProcessMachine). m.page_bytes) f.next_is ∙ bytes;
  lasts = subst (Lasts q address byte) (sym (ap (λ (m : ProcessMachine). m.processes) f.next_is)) (go which);
}
  where
    go : (q ≡ parent) ⊎ (q ≡ child) → Lasts q address byte (m.processes ++ Some f.process ∷ [])
    go (inl e) =
        let there = numbered_place m.processes parent f.process f.there in
        subst (λ (n : ℕ). Lasts n address byte (m.processes ++ Some f.process ∷ [])) (sym e)
        (appended parent address byte m.processes (Some f.process) (record { some = there.0; at = Some f.process; there = there.1; has = has }))
    go (inr e) = record {
      some = omega (arith, e, f.child_is);
      at = Some f.process;
      there = ap (slice_get (m.processes ++ Some f.process ∷ [])) (let last : q - 1 ≡ length m.processes = omega (arith, e, f.child_is) in last) ∙ get_last m.processes (Some f.process);
      has = has;
    }

pub forks_are_of_one_moment : ForksAreOfOneMoment
forks_are_of_one_moment m next after parent child h steps q address byte bytes answered chain which out has =
    let f : Forked m next parent child = forked m next parent child answered in
    let had : HasByte f.process address byte = has_byte f.process address byte ((λ i. byte_in (place_of (sym bytes i) (sym f.there i) address 1)) ∙ has) in
    lasting after q address byte (chain_keeps q address byte next steps after (starts m next parent child q address byte bytes f which had) chain out)

-- The load

-- a load that was answered
record Loaded (m : ProcessMachine) (process address length : ℕ) (bytes : List ℕ) : Type 0 where
  pub at : Place
  pub there : place m process address length ≡ Ok at
  pub is : bytes ≡ take length (drop at.byte (page_at at))

loaded_at : (m next : ProcessMachine) (process address length : ℕ) (bytes : List ℕ) (o : Result Place Refusal) → place m process address length ≡ o
    → with_ok o m (λ at. reply (replies.Bytes (take length (drop at.byte (page_at at)))) m) ≡ record { answer = Ok (replies.Bytes bytes); next = next } → Loaded m process address length bytes
unfolding with_ok
loaded_at m next process address length bytes (Err r) e h = absurd (cc (ap (λ (a : Answered). a.answer) h))
loaded_at m next process address length bytes (Ok at) e h =
    let answers : Ok (replies.Bytes (take length (drop at.byte (page_at at)))) ≡ Ok (replies.Bytes bytes) = ap (λ (a : Answered). a.answer) h in
    record { at = at; there = e; is = cc }

loaded : (m next : ProcessMachine) (process address length : ℕ) (bytes : List ℕ) → load_of m process address length ≡ record { answer = Ok (replies.Bytes bytes); next = next } → Loaded m process address length bytes
unfolding load_of
loaded m next process address length bytes h = loaded_at m next process address length bytes (place m process address length) refl h

pub loads_are_of_bytes : LoadsAreOfBytes
loads_are_of_bytes m next h process address length bytes i page answered less =
    let l : Loaded m process address length bytes = loaded m next process address length bytes answered in
    let living = alive m.page_bytes (process_of m process) address length l.at l.there in
    let here = placed living.0 address length l.at (subst (λ (b : ℕ). place_of b (Some living.0) address length ≡ Ok l.at) page living.2) in
    ap (λ (xs : List ℕ). slice_get xs i) l.is
    ∙ get_take (drop l.at.byte (page_at l.at)) length i less
    ∙ get_drop (page_at l.at) l.at.byte i
    ∙ sym (byte_on living.0 address length l.at i here less)
    ∙ sym (λ j. byte_in (place_of (page j) (living.1 j) (address + i) 1))
