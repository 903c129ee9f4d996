-- Lists of names.
use Rattle.std.proofs.Common.{◌≡◌, List, [], ◌∷◌, ◌++◌, ◌≢◌, Bool, true, false, cond, not, ◌⊎◌, Some, None, refl, sym, ap, ◌∙◌, inl, inr, filter}
use Rattle.vm_ids.specs.declared.node_name.NodeName.{NodeName}
use Rattle.vm_ids.specs.Forest.Names.{same}
use Rattle.vm_ids.proofs.Forest.Names.{name_cases, same_itself, same_apart}
use Rattle.vm_ids.specs.Forest.NameLists.{◌∈◌, Once, without, first}

-- an element of a filter's list is the head, which passes, or stands in the rest
in_kept : (b : Bool) (y : NodeName) (ys : List NodeName) (x : NodeName) → x ∈ cond b (y ∷ ys) ys → ((x ≡ y) × (b ≡ true)) ⊎ (x ∈ ys)
in_kept true y ys x is = elim is [ inl e ↦ inl (e, refl) | inr i ↦ inr i ]
in_kept false y ys x is = inr is

kept_in : (b : Bool) (y : NodeName) (ys : List NodeName) (x : NodeName) → ((x ≡ y) × (b ≡ true)) ⊎ (x ∈ ys) → x ∈ cond b (y ∷ ys) ys
kept_in true y ys x is = elim is [ inl e ↦ inl e.0 | inr i ↦ inr i ]
kept_in false y ys x is = elim is [ inl e ↦ absurd (cc (e.1)) | inr i ↦ i ]

pub in_filter : (test : NodeName → Bool) (xs : List NodeName) (x : NodeName) → x ∈ filter test xs → (x ∈ xs) × (test x ≡ true)
in_filter test [] x is = absurd is
in_filter test (y ∷ ys) x is = elim (in_kept (test y) y (filter test ys) x is) [
  | inl e ↦ (inl e.0, ap test e.0 ∙ e.1)
  | inr i ↦ (inr (in_filter test ys x i).0, (in_filter test ys x i).1)
]

pub filter_in : (test : NodeName → Bool) (xs : List NodeName) (x : NodeName) → x ∈ xs → test x ≡ true → x ∈ filter test xs
filter_in test [] x is t = absurd is
filter_in test (y ∷ ys) x is t = kept_in (test y) y (filter test ys) x (elim is [ inl e ↦ inl (e, ap test (sym e) ∙ t) | inr i ↦ inr (filter_in test ys x i t) ])

not_false : (b : Bool) → not b ≡ true → b ≡ false
not_false true e = sym e
not_false false e = refl

pub in_without : (y : NodeName) (xs : List NodeName) (x : NodeName) → x ∈ without y xs → (x ∈ xs) × (x ≢ y)
in_without y xs x is =
    let p = in_filter (λ z. not (same y z)) xs x is in
    (p.0, λ e. absurd (cc (not_false _ p.1, same_itself y, ap (same y) e)))

pub without_in : (y : NodeName) (xs : List NodeName) (x : NodeName) → x ∈ xs → x ≢ y → x ∈ without y xs
without_in y xs x is apart = filter_in (λ z. not (same y z)) xs x is (ap not (same_apart y x (λ e. apart (sym e))))

pub in_append : (xs ys : List NodeName) (x : NodeName) → x ∈ (xs ++ ys) → (x ∈ xs) ⊎ (x ∈ ys)
in_append [] ys x is = inr is
in_append (y ∷ xs) ys x is = elim is [ inl e ↦ inl (inl e) | inr j ↦ elim (in_append xs ys x j) [ inl a ↦ inl (inr a) | inr b ↦ inr b ] ]

pub append_in : (xs ys : List NodeName) (x : NodeName) → (x ∈ xs) ⊎ (x ∈ ys) → x ∈ (xs ++ ys)
append_in [] ys x is = elim is [ inl e ↦ absurd e | inr i ↦ i ]
append_in (y ∷ xs) ys x is = elim is [ inl e ↦ elim e [ inl p ↦ inl p | inr i ↦ inr (append_in xs ys x (inl i)) ] | inr i ↦ inr (append_in xs ys x (inr i)) ]

pub first_in : (xs : List NodeName) (x : NodeName) → first xs ≡ Some x → x ∈ xs
first_in [] x e = absurd (cc e)
first_in (y ∷ ys) x e = let p : x ≡ y = cc e in inl p

pub in_cases : (xs : List NodeName) (x : NodeName) → (x ∈ xs) ⊎ (x ∈ xs → ⊥)
in_cases [] x = inr (λ i. i)
in_cases (y ∷ ys) x = elim (name_cases x y) [
  | inl e ↦ inl (inl e)
  | inr apart ↦ elim (in_cases ys x) [ inl i ↦ inl (inr i) | inr out ↦ inr (λ i. elim i [ inl e ↦ apart e | inr j ↦ out j ]) ]
]

pub Once-filter : (test : NodeName → Bool) (xs : List NodeName) → Once xs → Once (filter test xs)
Once-filter test [] once = tt
Once-filter test (y ∷ ys) once = go (test y) (λ i. once.0 (in_filter test ys y i).0) (Once-filter test ys once.1)
  where
    go : (b : Bool) → (y ∈ filter test ys → ⊥) → Once (filter test ys) → Once (cond b (y ∷ filter test ys) (filter test ys))
    go true out more = (out, more)
    go false out more = more

pub Once-append : (xs ys : List NodeName) → Once xs → Once ys → ((x : NodeName) → x ∈ xs → x ∈ ys → ⊥) → Once (xs ++ ys)
Once-append [] ys a b apart = b
Once-append (x ∷ xs) ys a b apart = (λ i. elim (in_append xs ys x i) [ inl j ↦ a.0 j | inr j ↦ apart x (inl refl) j ], Once-append xs ys a.1 b (λ z i j. apart z (inr i) j))

pub without_out : (y : NodeName) (xs : List NodeName) → (y ∈ xs → ⊥) → without y xs ≡ xs
without_out y [] out = refl
without_out y (x ∷ xs) out = rw (same_apart y x (λ e. out (inl e))) (ap (λ zs. x ∷ zs) (without_out y xs (λ i. out (inr i))))

pub no_first : (xs : List NodeName) → ((x : NodeName) → x ∈ xs → ⊥) → first xs ≡ None
no_first [] out = refl
no_first (x ∷ xs) out = absurd (out x (inl refl))
