-- The entries of numbers, alone or told by stretches.
use Rattle.std.proofs.Common.{◌≡◌, ◌≢◌, ℕ, zero, suc, ◌+◌, ◌-◌, ◌<◌, ◌≤◌, Bool, true, false, cond, List, [], ◌∷◌, length, get_or, Option, Some, None, refl, sym, ap, ◌∙◌, inl, inr, arith}
use Rattle.std.specs.Prelude.{IfSome, IsSome, is_some, MatchOption}
use Rattle.std.proofs.lemmas.Bool.{cases_eq, cond-true, cond-false}
use Rattle.std.proofs.lemmas.Bool.Decides.{nat_tests}
use Rattle.std.specs.Ordering.{nat_cmp}
use Rattle.std.specs.Cmp.{nat_cmp_total}
use Rattle.std.specs.FinMap.{FinMap, get-insert, get-remove}
use Rattle.std.specs.FinMap as map
use Rattle.stretches.specs.declared.says.Says.{Ghosts}
use Rattle.stretches.specs.declared.stretch.Stretch.{Stretch}
use Rattle.stretches.specs.Changes.{SayAlso, SayNoMore}
use Rattle.stretches.specs.Stretch.{is_in, value_at}
use Rattle.stretches.specs.Stretches.{AreTogether, IsStretchWith, SayAs, Stretches, number_count, said}
use Rattle.stretches.specs.Stretches as stretches
use Rattle.stretches.proofs.Cells.{in_front}
use Rattle.stretches.proofs.Reading.Numbers.{high, low, within}
use Rattle.mixed_map.specs.Lone.{Lone}
use Rattle.mixed_map.specs.Mixed.{IsMixed, IsStretchFrom, Mixed, Tells, with_first, with_stretch, with_told, without_range, without_stretch}
use Rattle.mixed_map.proofs.Maps.{insert_other, insert_same, remove_other, remove_same, same, tied, untied}

module _ {V : Type 0} where
  -- fewer numbers that are together
  pub together_fewer : (rs : List (Stretch V)) (first count many : ℕ) → many ≤ count → AreTogether rs first count → AreTogether rs first many
  together_fewer rs first count many le c = record { at = c.at; within = c.within; from = c.from; to = λ d. omega (arith, c.to d, le) }

module _ {V S : Type 0} where
  get_without : (m : FinMap nat_cmp S) (r : Stretch V) (k n : ℕ) → map.get (without_range m r.first k) n ≡ cond (in_front r k n) None (map.get m n)
  get_without m r zero n = (let none : in_front r 0 n ≡ false = grind (arith, nat_tests) in sym (cond-false _ _ _ none))
  get_without m r (suc k) n = get-remove nat_cmp_total (without_range m r.first k) (r.first + k) n ∙ elim (cases_eq n (r.first + k)) [
    | inl at ↦
        let inside : in_front r (suc k) n ≡ true = grind (arith, nat_tests) in
        cond-true _ _ _ (tied n (r.first + k) at) ∙ sym (cond-true _ _ _ inside)
    | inr other ↦
        let alike : in_front r k n ≡ in_front r (suc k) n = grind (arith, nat_tests) in
        cond-false _ _ _ (untied n (r.first + k) other) ∙ get_without m r k n ∙ ap (λ (b : Bool). cond b None (map.get m n)) alike
  ]

  pub gone : (m : FinMap nat_cmp S) (r : Stretch V) (n : ℕ) → map.get (without_stretch m r) n ≡ cond (is_in r n) None (map.get m n)
  gone m r n = get_without m r r.count n

  -- the numbers of a stretch go
  pub is_without : (m new : FinMap nat_cmp S) (r : Stretch V) → ((n : ℕ) → map.get new n ≡ cond (is_in r n) None (map.get m n)) → new ≡ without_stretch m r
  is_without m new r h = same _ _ (λ n. h n ∙ sym (gone m r n))

module _ {V S : Type 0} (G : Ghosts V) (told : V → S) where
  get_first : (m : FinMap nat_cmp S) (r : Stretch V) (k n : ℕ) → map.get (with_first G told m r k) n ≡ cond (in_front r k n) (Some (told (value_at G r n))) (map.get m n)
  get_first m r zero n = (let none : in_front r 0 n ≡ false = grind (arith, nat_tests) in sym (cond-false _ _ _ none))
  get_first m r (suc k) n = get-insert nat_cmp_total (with_first G told m r k) (r.first + k) (told (G.after r.value k)) n ∙ elim (cases_eq n (r.first + k)) [
    | inl at ↦
        let far : n - r.first ≡ k = omega arith in
        let inside : in_front r (suc k) n ≡ true = grind (arith, nat_tests) in
        cond-true _ _ _ (tied n (r.first + k) at) ∙ ap (λ (j : ℕ). Some (told (G.after r.value j))) (sym far) ∙ sym (cond-true _ _ _ inside)
    | inr other ↦
        let alike : in_front r k n ≡ in_front r (suc k) n = grind (arith, nat_tests) in
        cond-false _ _ _ (untied n (r.first + k) other) ∙ get_first m r k n ∙ ap (λ (b : Bool). cond b (Some (told (value_at G r n))) (map.get m n)) alike
  ]

  pub get_with : (m : FinMap nat_cmp S) (r : Stretch V) (n : ℕ) → map.get (with_stretch G told m r) n ≡ cond (is_in r n) (Some (told (value_at G r n))) (map.get m n)
  get_with m r n = get_first m r r.count n

  -- the entry that a stretch tells, or else this
  abbrev pub or_told : Option V → Option S → Option S
  or_told None o = o
  or_told (Some v) o = Some (told v)

  by_test : (b : Bool) (v : V) (o : Option V) (p q : Option S) → p ≡ or_told o q → cond b (Some (told v)) p ≡ or_told (cond b (Some v) o) q
  by_test true v o p q e = refl
  by_test false v o p q e = e

  pub get_told : (m : FinMap nat_cmp S) (rs : List (Stretch V)) (n : ℕ) → map.get (with_told G told m rs) n ≡ or_told (said G rs n) (map.get m n)
  unfolding with_told
  get_told m [] n = refl
  get_told m (r ∷ rs) n = get_with (with_told G told m rs) r n ∙ by_test (is_in r n) (value_at G r n) (said G rs n) _ _ (get_told m rs n)

  pub told_none : (m : FinMap nat_cmp S) (rs : List (Stretch V)) → rs ≡ [] → with_told G told m rs ≡ m
  unfolding with_told
  told_none m rs e = ap (with_told G told m) e

  pub none_both : (o : Option V) (p : Option S) → or_told o p ≡ None → (o ≡ None) × (p ≡ None)
  none_both None p e = (refl, e)
  none_both (Some v) p e = absurd (cc)

  -- what a contract sees
  abbrev pub the_mixed : Lone S → Stretches V → Mixed V S
  the_mixed lone s = record {
    cells = with_told G told lone.entries s.list;
    slots = lone.slots;
    list = s.list;
    count = map.len lone.slots + number_count s.list;
    room = lone.room;
  }

  pub get_seen : (lone : Lone S) (s : Stretches V) (now : Mixed V S) → the_mixed lone s ≡ now → (n : ℕ) → map.get now.cells n ≡ or_told (said G s.list n) (map.get lone.entries n)
  get_seen lone s now view n = ap (λ (v : Mixed V S). map.get v.cells n) (sym view) ∙ get_told lone.entries s.list n

  pub said_seen : (lone : Lone S) (s : Stretches V) (now : Mixed V S) → the_mixed lone s ≡ now → (n : ℕ) → said G s.list n ≡ said G now.list n
  said_seen lone s now view n = ap (λ (v : Mixed V S). said G v.list n) view

  pub seen : (m n : FinMap nat_cmp S) (p q : FinMap nat_cmp ℕ) (rs ss : List (Stretch V)) (a b r s : ℕ) → m ≡ n → p ≡ q → rs ≡ ss → a ≡ b → r ≡ s → ◌≡◌ {A = Mixed V S} (record { cells = m; slots = p; list = rs; count = a; room = r }) (record { cells = n; slots = q; list = ss; count = b; room = s })
  seen m n p q rs ss a b r s e j f g h = λ i. record { cells = e i; slots = j i; list = f i; count = g i; room = h i }

  -- an entry alone changes, of a number that no stretch has
  pub told_insert : (m : FinMap nat_cmp S) (rs : List (Stretch V)) (n : ℕ) (x : S) → said G rs n ≡ None → with_told G told (map.insert m n x) rs ≡ map.insert (with_told G told m rs) n x
  told_insert m rs n x none = same _ _ (λ q. get_told (map.insert m n x) rs q ∙ elim (cases_eq q n) [
    | inl at ↦ ap (λ (k : ℕ). or_told (said G rs k) (map.get (map.insert m n x) q)) at ∙ ap (λ (o : Option V). or_told o (map.get (map.insert m n x) q)) none ∙ insert_same m n x q at ∙ sym (insert_same _ n x q at)
    | inr other ↦ ap (or_told (said G rs q)) (insert_other m n x q other) ∙ sym (get_told m rs q) ∙ sym (insert_other _ n x q other)
  ])

  pub told_remove : (m : FinMap nat_cmp S) (rs : List (Stretch V)) (n : ℕ) → said G rs n ≡ None → with_told G told (map.remove m n) rs ≡ map.remove (with_told G told m rs) n
  told_remove m rs n none = same _ _ (λ q. get_told (map.remove m n) rs q ∙ elim (cases_eq q n) [
    | inl at ↦ ap (λ (k : ℕ). or_told (said G rs k) (map.get (map.remove m n) q)) at ∙ ap (λ (o : Option V). or_told o (map.get (map.remove m n) q)) none ∙ remove_same m n q at ∙ sym (remove_same _ n q at)
    | inr other ↦ ap (or_told (said G rs q)) (remove_other m n q other) ∙ sym (get_told m rs q) ∙ sym (remove_other _ n q other)
  ])

  -- what the stretches say changes
  pub told_also : (m : FinMap nat_cmp S) (rs : List (Stretch V)) (r : Stretch V) (others : List (Stretch V)) → SayAlso G rs r others → with_told G told m others ≡ with_stretch G told (with_told G told m rs) r
  told_also m rs r others also = same _ _ (λ q.
      get_told m others q ∙ ap (λ (o : Option V). or_told o (map.get m q)) (also q)
      ∙ sym (by_test (is_in r q) (value_at G r q) (said G rs q) _ _ (get_told m rs q))
      ∙ sym (get_with (with_told G told m rs) r q))

  less_test : (b : Bool) (o : Option V) (p q : Option S) → (b ≡ true → p ≡ None) → q ≡ or_told o p → or_told (cond b None o) p ≡ cond b None q
  less_test true o p q none e = none refl
  less_test false o p q none e = sym e

  pub told_less : (m : FinMap nat_cmp S) (rs : List (Stretch V)) (r : Stretch V) (others : List (Stretch V)) → SayNoMore G rs r others → ((n : ℕ) → is_in r n ≡ true → map.get m n ≡ None) → (n : ℕ) → map.get (with_told G told m others) n ≡ cond (is_in r n) None (map.get (with_told G told m rs) n)
  told_less m rs r others less none n =
      get_told m others n ∙ ap (λ (o : Option V). or_told o (map.get m n)) (less n)
      ∙ less_test (is_in r n) (said G rs n) (map.get m n) _ (none n) (get_told m rs n)

  -- a stretch that says what the stretches say tells the entries
  pub tells : (lone : Lone S) (s : Stretches V) (now : Mixed V S) → the_mixed lone s ≡ now → (r : Stretch V) → SayAs G s.list r → Tells G told now.cells r
  tells lone s now view r says n h = get_seen lone s now view n ∙ ap (λ (o : Option V). or_told o (map.get lone.entries n)) (says n h)

  pub found_from : (lone : Lone S) (s : Stretches V) (now : Mixed V S) → the_mixed lone s ≡ now → (n : ℕ) (o : Option (Stretch V)) → MatchOption o (said G s.list n ≡ None) (stretches.IsStretchFrom G s.list n) → MatchOption o (said G now.list n ≡ None) (IsStretchFrom G told now.cells n)
  found_from lone s now view n None none = sym (said_seen lone s now view n) ∙ none
  found_from lone s now view n (Some r) from = record { begins = from.begins; fit = from.fit; told_by = tells lone s now view r from.said }

  -- the same of a stretch that has the number
  pub told_with : (lone : Lone S) (s : Stretches V) (now : Mixed V S) → the_mixed lone s ≡ now → (n : ℕ) (o : Option (Stretch V)) → MatchOption o (said G s.list n ≡ None) (IsStretchWith G s.list n) → IfSome o (Tells G told now.cells)
  told_with lone s now view n None none = tt
  told_with lone s now view n (Some r) with = tells lone s now view r with.said

  -- numbers that go come back as a stretch tells them
  pub gathered : (m : FinMap nat_cmp S) (r : Stretch V) → Tells G told m r → with_stretch G told (without_stretch m r) r ≡ m
  gathered m r tell = same _ _ (λ n. get_with (without_stretch m r) r n ∙ by_in n (is_in r n) refl) where
    by_in : (n : ℕ) (b : Bool) → is_in r n ≡ b → cond b (Some (told (value_at G r n))) (map.get (without_stretch m r) n) ≡ map.get m n
    by_in n true h = sym (tell n h)
    by_in n false h = gone m r n ∙ cond-false _ _ _ h

  -- a number with an entry alone is in no stretch
  pub not_told : (lone : Lone S) (s : Stretches V) → IsMixed G lone s → (n : ℕ) → map.get lone.entries n ≢ None → said G s.list n ≡ None
  not_told lone s k n alone = by_said (said G s.list n) refl where
    by_said : (o : Option V) → said G s.list n ≡ o → o ≡ None
    by_said None e = refl
    by_said (Some v) e = absurd (alone (k.apart n v e))

  -- nor is one with a slot
  pub placed_alone : (lone : Lone S) (s : Stretches V) → IsMixed G lone s → (n p : ℕ) → map.get lone.slots n ≡ Some p → said G s.list n ≡ None
  placed_alone lone s k n p at = by_said (said G s.list n) refl where
    by_said : (o : Option V) → said G s.list n ≡ o → o ≡ None
    by_said None e = refl
    by_said (Some v) e = (let none = k.placed n (k.apart n v e) in absurd (cc))

  -- an entry that stands alone is the number's
  pub cell_alone : (lone : Lone S) (s : Stretches V) (now : Mixed V S) → the_mixed lone s ≡ now → IsMixed G lone s → (n : ℕ) (x : S) → map.get lone.entries n ≡ Some x → (map.get now.cells n ≡ Some x) × (said G s.list n ≡ None)
  cell_alone lone s now view k n x there =
      let none = not_told lone s k n (λ e. (let never = sym there ∙ e in absurd (cc))) in
      (get_seen lone s now view n ∙ ap (λ (o : Option V). or_told o (map.get lone.entries n)) none ∙ there, none)

  -- a number with an entry that doesn't stand alone is in a stretch
  pub is_told : (o : Option V) (p : Option S) → IsSome (or_told o p) → p ≡ None → IsSome o
  is_told None p some none = (let never : is_some p ≡ false = ap is_some none in absurd (cc))
  is_told (Some v) p some none = refl

  -- no more numbers stand alone than before
  pub mixed_changed : (lone new : Lone S) (s : Stretches V) → IsMixed G lone s → ((n : ℕ) (v : V) → said G s.list n ≡ Some v → map.get lone.entries n ≡ None → map.get new.entries n ≡ None) → ((n : ℕ) → map.get new.entries n ≡ None → map.get new.slots n ≡ None) → new.room ≡ lone.room → map.len new.slots + number_count s.list ≤ new.room → IsMixed G new s
  mixed_changed lone new s k none placed room few = record {
    apart = λ n v e. none n v e (k.apart n v e);
    placed = placed;
    places = omega (arith, k.places, room);
    few = few;
  }

  -- a number with an entry set has one
  pub none_set : (m : FinMap nat_cmp S) (n : ℕ) (x : S) (q : ℕ) → map.get (map.insert m n x) q ≡ None → (q ≢ n) × (map.get m q ≡ None)
  none_set m n x q e = elim (cases_eq q n) [
    | inl at ↦ (let some = insert_same m n x q at in absurd (cc))
    | inr other ↦ (other, sym (insert_other m n x q other) ∙ e)
  ]

  -- and one that is removed, or had none, has none
  pub none_left : (lone : Lone S) (n q : ℕ) → ((p : ℕ) → map.get lone.entries p ≡ None → map.get lone.slots p ≡ None) → map.get (map.remove lone.entries n) q ≡ None → map.get (map.remove lone.slots n) q ≡ None
  none_left lone n q placed e = elim (cases_eq q n) [
    | inl at ↦ remove_same lone.slots n q at
    | inr other ↦ remove_other lone.slots n q other ∙ placed q (sym (remove_other lone.entries n q other) ∙ e)
  ]

  -- other numbers than one stand alone as before, and no stretch has this
  pub none_of : (m : FinMap nat_cmp S) (rs : List (Stretch V)) (n : ℕ) (x : S) → said G rs n ≡ None → (q : ℕ) (v : V) → said G rs q ≡ Some v → map.get m q ≡ None → map.get (map.insert m n x) q ≡ None
  none_of m rs n x none q v e was = elim (cases_eq q n) [
    | inl at ↦ (let never : said G rs q ≡ None = ap (said G rs) at ∙ none in absurd (cc))
    | inr other ↦ insert_other m n x q other ∙ was
  ]

  pub none_less : (m : FinMap nat_cmp S) (n q : ℕ) → map.get m q ≡ None → map.get (map.remove m n) q ≡ None
  none_less m n q was = elim (cases_eq q n) [ inl at ↦ remove_same m n q at | inr other ↦ remove_other m n q other ∙ was ]

  -- the stretches say this too, of numbers that don't stand alone
  pub mixed_also : (lone : Lone S) (s new : Stretches V) (r : Stretch V) → IsMixed G lone s → SayAlso G s.list r new.list → ((n : ℕ) → is_in r n ≡ true → map.get lone.entries n ≡ None) → new.places ≡ s.places → map.len lone.slots + number_count new.list ≤ lone.room → IsMixed G lone new
  mixed_also lone s new r k also none places few = record {
    apart = λ n v e. by_in n v (is_in r n) refl (sym (also n) ∙ e);
    placed = k.placed;
    places = omega (arith, k.places, places);
    few = few;
  } where
    by_in : (n : ℕ) (v : V) (b : Bool) → is_in r n ≡ b → cond b (Some (value_at G r n)) (said G s.list n) ≡ Some v → map.get lone.entries n ≡ None
    by_in n v true h e = none n h
    by_in n v false h e = k.apart n v e

  -- numbers that are together in a stretch are said
  said_some : (rs : List (Stretch V)) (n at : ℕ) (d : Stretch V) → at < length rs → is_in (get_or rs at d) n ≡ true → said G rs n ≢ None
  said_some [] n at d less h = absurd (omega arith)
  said_some (r ∷ rs) n zero d less h = λ e. (let here : cond (is_in r n) (Some (value_at G r n)) (said G rs n) ≡ Some (value_at G r n) = cond-true _ _ _ h in absurd (cc))
  said_some (r ∷ rs) n (suc at) d less h = by_in (is_in r n) (said_some rs n at d (omega arith) h) where
    by_in : (b : Bool) → said G rs n ≢ None → cond b (Some (value_at G r n)) (said G rs n) ≢ None
    by_in true h e = absurd (cc)
    by_in false h e = h e

  pub together_alone : (lone : Lone S) (s : Stretches V) → IsMixed G lone s → (r : Stretch V) → AreTogether s.list r.first r.count → (n : ℕ) → is_in r n ≡ true → map.get lone.entries n ≡ None
  together_alone lone s k r c n h = by_said (said G s.list n) refl where
    by_said : (o : Option V) → said G s.list n ≡ o → map.get lone.entries n ≡ None
    by_said None e = absurd (said_some s.list n c.at r c.within (within (get_or s.list c.at r) n (omega (arith, c.from r, low r n h)) (omega (arith, c.to r, high r n h))) e)
    by_said (Some v) e = k.apart n v e
