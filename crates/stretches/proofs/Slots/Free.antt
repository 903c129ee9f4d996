-- Which slots are free, where leaves come and go.
use Rattle.std.proofs.Common.{◌≡◌, ◌≢◌, ℕ, zero, suc, ◌<◌, ◌≤◌, List, [], ◌∷◌, ◌++◌, length, get_or, set, refl, sym, ap, subst, ◌∙◌, arith}
use Rattle.std.specs.List.{insert, remove}
use Rattle.stretches.specs.declared.leaf.Leaf.{Leaf}
use Rattle.stretches.specs.Slots.{AreApart, AreFit, IsFree}

-- a slot that a leaf has isn't free
pub free_at : (s : ℕ) (ls : List Leaf) (j : ℕ) (l : Leaf) → j < length ls → l ≡ get_or ls j l → IsFree s ls → l.slot ≢ s
free_at s [] j l less is free = absurd (omega arith)
free_at s (m ∷ ls) zero l less is free = λ e. free.0 (ap (λ (q : Leaf). q.slot) (sym is) ∙ e)
free_at s (m ∷ ls) (suc j) l less is free = free_at s ls j l (omega arith) is free.1

pub free_set : (s : ℕ) (ls : List Leaf) (j : ℕ) (l : Leaf) → l.slot ≢ s → IsFree s ls → IsFree s (set ls j l)
free_set s [] j l other free = tt
free_set s (m ∷ ls) zero l other free = (other, free.1)
free_set s (m ∷ ls) (suc j) l other free = (free.0, free_set s ls j l other free.1)

pub apart_set : (ls : List Leaf) (j : ℕ) (l m : Leaf) → j < length ls → l ≡ get_or ls j l → m.slot ≡ l.slot → AreApart ls → AreApart (set ls j m)
apart_set [] j l m less is same apart = absurd (omega arith)
apart_set (k ∷ ls) zero l m less is same apart =
    (subst (λ (s : ℕ). IsFree s ls) (sym (same ∙ ap (λ (q : Leaf). q.slot) is)) apart.0, apart.1)
apart_set (k ∷ ls) (suc j) l m less is same apart =
    let other = free_at k.slot ls j l (omega arith) is apart.0 in
    (free_set k.slot ls j m (λ e. other (sym same ∙ e)) apart.0, apart_set ls j l m (omega arith) is same apart.1)

pub free_insert : (s : ℕ) (ls : List Leaf) (j : ℕ) (l : Leaf) → l.slot ≢ s → IsFree s ls → IsFree s (insert ls j l)
free_insert s [] zero l other free = (other, tt)
free_insert s [] (suc j) l other free = (other, tt)
free_insert s (m ∷ ls) zero l other free = (other, free)
free_insert s (m ∷ ls) (suc j) l other free = (free.0, free_insert s ls j l other free.1)

pub apart_insert : (ls : List Leaf) (j : ℕ) (l : Leaf) → IsFree l.slot ls → AreApart ls → AreApart (insert ls j l)
apart_insert [] zero l free apart = (tt, tt)
apart_insert [] (suc j) l free apart = (tt, tt)
apart_insert (m ∷ ls) zero l free apart = (free, apart)
apart_insert (m ∷ ls) (suc j) l free apart =
    (free_insert m.slot ls j l (λ e. free.0 (sym e)) apart.0, apart_insert ls j l free.1 apart.1)

pub free_remove : (s : ℕ) (ls : List Leaf) (j : ℕ) → IsFree s ls → IsFree s (remove ls j)
free_remove s [] zero free = tt
free_remove s [] (suc j) free = tt
free_remove s (m ∷ ls) zero free = free.1
free_remove s (m ∷ ls) (suc j) free = (free.0, free_remove s ls j free.1)

pub apart_remove : (ls : List Leaf) (j : ℕ) → AreApart ls → AreApart (remove ls j)
apart_remove [] zero apart = tt
apart_remove [] (suc j) apart = tt
apart_remove (m ∷ ls) zero apart = apart.1
apart_remove (m ∷ ls) (suc j) apart = (free_remove m.slot ls j apart.0, apart_remove ls j apart.1)

-- the slot of a leaf that went is free
pub free_removed : (ls : List Leaf) (j : ℕ) (l : Leaf) → j < length ls → l ≡ get_or ls j l → AreApart ls → IsFree l.slot (remove ls j)
free_removed [] j l less is apart = absurd (omega arith)
free_removed (m ∷ ls) zero l less is apart = subst (λ (s : ℕ). IsFree s ls) (ap (λ (q : Leaf). q.slot) (sym is)) apart.0
free_removed (m ∷ ls) (suc j) l less is apart =
    let other = free_at m.slot ls j l (omega arith) is apart.0 in
    (λ e. other (sym e), free_removed ls j l (omega arith) is apart.1)

-- two leaves have two slots
pub apart_slots : (ls : List Leaf) (i j : ℕ) (l m : Leaf) → i < length ls → j < length ls → l ≡ get_or ls i l → m ≡ get_or ls j m → i ≢ j → AreApart ls → l.slot ≢ m.slot
apart_slots [] i j l m first second is also other apart = absurd (omega arith)
apart_slots (k ∷ ls) zero zero l m first second is also other apart = absurd (other refl)
apart_slots (k ∷ ls) zero (suc j) l m first second is also other apart =
    λ e. free_at k.slot ls j m (omega arith) also apart.0 (sym e ∙ ap (λ (q : Leaf). q.slot) is)
apart_slots (k ∷ ls) (suc i) zero l m first second is also other apart =
    λ e. free_at k.slot ls i l (omega arith) is apart.0 (e ∙ ap (λ (q : Leaf). q.slot) also)
apart_slots (k ∷ ls) (suc i) (suc j) l m first second is also other apart =
    apart_slots ls i j l m (omega arith) (omega arith) is also (λ e. other (ap suc e)) apart.1

pub free_push : (s : ℕ) (ls : List Leaf) (l : Leaf) → l.slot ≢ s → IsFree s ls → IsFree s (ls ++ l ∷ [])
free_push s [] l other free = (other, tt)
free_push s (m ∷ ls) l other free = (free.0, free_push s ls l other free.1)

pub apart_push : (ls : List Leaf) (l : Leaf) → IsFree l.slot ls → AreApart ls → AreApart (ls ++ l ∷ [])
apart_push [] l free apart = (tt, tt)
apart_push (m ∷ ls) l free apart = (free_push m.slot ls l (λ e. free.0 (sym e)) apart.0, apart_push ls l free.1 apart.1)

-- a front of leaves
pub free_front : (s : ℕ) (ls ms : List Leaf) → IsFree s (ls ++ ms) → IsFree s ls
free_front s [] ms free = tt
free_front s (l ∷ ls) ms free = (free.0, free_front s ls ms free.1)

pub apart_front : (ls ms : List Leaf) → AreApart (ls ++ ms) → AreApart ls
apart_front [] ms apart = tt
apart_front (l ∷ ls) ms apart = (free_front l.slot ls ms apart.0, apart_front ls ms apart.1)

pub fit_front : (n : ℕ) (ls ms : List Leaf) → AreFit n (ls ++ ms) → AreFit n ls
fit_front n [] ms fit = tt
fit_front n (l ∷ ls) ms fit = (fit.0, fit.1, fit_front n ls ms fit.2)

free_last_of : (s : ℕ) (ls : List Leaf) (l : Leaf) → IsFree s (ls ++ l ∷ []) → l.slot ≢ s
free_last_of s [] l free = free.0
free_last_of s (m ∷ ls) l free = free_last_of s ls l free.1

-- the slot of the last leaf is free of the others
pub free_last : (ls : List Leaf) (l : Leaf) → AreApart (ls ++ l ∷ []) → IsFree l.slot ls
free_last [] l apart = tt
free_last (m ∷ ls) l apart = (λ e. free_last_of m.slot ls l apart.0 (sym e), free_last ls l apart.1)

pub fit_at : (n : ℕ) (ls : List Leaf) (j : ℕ) (l : Leaf) → j < length ls → l ≡ get_or ls j l → AreFit n ls → (l.slot < n) × (l.len ≤ 128)
fit_at n [] j l less is fit = absurd (omega arith)
fit_at n (m ∷ ls) zero l less is fit =
    (omega (arith, fit.0, ap (λ (q : Leaf). q.slot) is), omega (arith, fit.1, ap (λ (q : Leaf). q.len) is))
fit_at n (m ∷ ls) (suc j) l less is fit = fit_at n ls j l (omega arith) is fit.2

pub fit_last : (n : ℕ) (ls : List Leaf) (l : Leaf) → AreFit n (ls ++ l ∷ []) → l.slot < n
fit_last n [] l fit = fit.0
fit_last n (m ∷ ls) l fit = fit_last n ls l fit.2

pub fit_set : (n : ℕ) (ls : List Leaf) (j : ℕ) (l : Leaf) → l.slot < n → l.len ≤ 128 → AreFit n ls → AreFit n (set ls j l)
fit_set n [] j l slot len fit = tt
fit_set n (m ∷ ls) zero l slot len fit = (slot, len, fit.2)
fit_set n (m ∷ ls) (suc j) l slot len fit = (fit.0, fit.1, fit_set n ls j l slot len fit.2)

pub fit_insert : (n : ℕ) (ls : List Leaf) (j : ℕ) (l : Leaf) → l.slot < n → l.len ≤ 128 → AreFit n ls → AreFit n (insert ls j l)
fit_insert n [] zero l slot len fit = (slot, len, tt)
fit_insert n [] (suc j) l slot len fit = (slot, len, tt)
fit_insert n (m ∷ ls) zero l slot len fit = (slot, len, fit)
fit_insert n (m ∷ ls) (suc j) l slot len fit = (fit.0, fit.1, fit_insert n ls j l slot len fit.2)

pub fit_remove : (n : ℕ) (ls : List Leaf) (j : ℕ) → AreFit n ls → AreFit n (remove ls j)
fit_remove n [] zero fit = tt
fit_remove n [] (suc j) fit = tt
fit_remove n (m ∷ ls) zero fit = fit.2
fit_remove n (m ∷ ls) (suc j) fit = (fit.0, fit.1, fit_remove n ls j fit.2)

pub fit_push : (n : ℕ) (ls : List Leaf) (l : Leaf) → l.slot < n → l.len ≤ 128 → AreFit n ls → AreFit n (ls ++ l ∷ [])
fit_push n [] l slot len fit = (slot, len, tt)
fit_push n (m ∷ ls) l slot len fit = (fit.0, fit.1, fit_push n ls l slot len fit.2)

pub fit_more : (n m : ℕ) (ls : List Leaf) → n ≤ m → AreFit n ls → AreFit m ls
fit_more n m [] more fit = tt
fit_more n m (l ∷ ls) more fit = (omega (arith, fit.0, more), fit.1, fit_more n m ls more fit.2)

-- a slot past all others is free
pub free_past : (n s : ℕ) (ls : List Leaf) → n ≤ s → AreFit n ls → IsFree s ls
free_past n s [] past fit = tt
free_past n s (l ∷ ls) past fit = (λ e. absurd (omega (arith, fit.0, past, e)), free_past n s ls past fit.2)
