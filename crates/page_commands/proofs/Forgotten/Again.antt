-- Pages are forgotten some of which were forgotten before, which makes no difference.
use Rattle.std.proofs.Common.{◌≡◌, List, [], ◌∷◌, Bool, true, false, cond, Option, Some, None, refl, sym, ap, ◌∙◌, inl, inr}
use Rattle.std.specs.Prelude.{option_map}
use Rattle.vm_ids.specs.declared.node_name.NodeName.{NodeName}
use Rattle.vm_ids.specs.Forest.Changes.{edit, with_own}
use Rattle.vm_ids.specs.Forest.Commands.{destroy, replace_pages}
use Rattle.vm_ids.specs.Forest.Forgetting.{forget, forgotten}
use Rattle.vm_ids.specs.Forest.Laws.Commands.{ArePagesOnce}
use Rattle.vm_ids.specs.Forest.NameLists.{◌∈◌}
use Rattle.vm_ids.specs.Forest.Names.{same}
use Rattle.vm_ids.specs.Forest.Nodes.{Forest, node}
use Rattle.vm_ids.specs.Forest.PageMap.{bare}
use Rattle.vm_ids.specs.Forest.Saving.{is_unsaved}
use Rattle.vm_ids.specs.Forest.Settling.{settle}
use Rattle.vm_ids.specs.Forest.Shape.{IsConsistent}
use Rattle.vm_ids.proofs.Forest.BareThin.{bare-consistent}
use Rattle.vm_ids.proofs.Forest.Laws.Forgetting.{destroy-forgets}
use Rattle.vm_ids.proofs.Forest.LostPages.{forget-bare, forgotten-bare}
use Rattle.vm_ids.proofs.Forest.Names.{name_cases, same_apart, same_itself}
use Rattle.vm_ids.proofs.Forest.NodesAfter.{node-put, node-put_other}
use Rattle.vm_ids.proofs.Forest.PageMap.{equal_by_pages}
use Rattle.page_commands.proofs.TiedStores.Shape.{like_pages, like_saved}
use Rattle.page_commands.proofs.CommandSteps.Replacing.{replace_forgotten, with_page}

module _ {P : Type 0} (p : P) where
  -- p in place of a page
  abbrev blurred : Option P → Option P
  blurred o = option_map (λ _. p) o

  blurred_if : Bool → Option P → Option P
  blurred_if b o = cond b (blurred o) o

  blurred_twice : (b : Bool) (o : Option P) → blurred_if b (blurred_if b o) ≡ blurred_if b o
  unfolding blurred_if
  blurred_twice true None = refl
  blurred_twice true (Some v) = refl
  blurred_twice false o = refl

  blurred_across : (b c : Bool) (o : Option P) → blurred_if b (blurred_if c o) ≡ blurred_if c (blurred_if b o)
  unfolding blurred_if
  blurred_across true true o = refl
  blurred_across true false o = refl
  blurred_across false true o = refl
  blurred_across false false o = refl

  own-forget : (f : Forest P) (x y : NodeName) → (node (forget f x p) y).own ≡ blurred_if (same x y) (node f y).own
  unfolding forget blurred_if
  own-forget f x y = elim (name_cases y x) [
    | inl e ↦
        ap (λ z. (node (forget f x p) z).own) e ∙ here (node f x).own refl
        ∙ sym (ap (λ z. cond (same x z) (blurred (node f z).own) (node f z).own) e ∙ ap (λ b. cond b (blurred (node f x).own) (node f x).own) (same_itself x))
    | inr apart ↦
        there apart (node f x).own refl
        ∙ sym (ap (λ b. cond b (blurred (node f y).own) (node f y).own) (same_apart x y (λ e. apart (sym e))))
  ]
    where
      here : (o : Option P) → (node f x).own ≡ o → (node (elim o [ None ↦ f | Some v ↦ edit f x (with_own (Some p)) ]) x).own ≡ blurred o
      here None e = e
      here (Some v) e = ap (λ n. n.own) (node-put f x (with_own (Some p) (node f x)))

      there : (y ≡ x → ⊥) → (o : Option P) → (node f x).own ≡ o → (node (elim o [ None ↦ f | Some v ↦ edit f x (with_own (Some p)) ]) y).own ≡ (node f y).own
      there apart None e = refl
      there apart (Some v) e = ap (λ n. n.own) (node-put_other f x y (with_own (Some p) (node f x)) apart)

  forget_twice : (f : Forest P) (x : NodeName) → forget (forget f x p) x p ≡ forget f x p
  forget_twice f x = equal_by_pages _ _ (forget-bare (forget f x p) x p) (λ y.
      own-forget (forget f x p) x y ∙ ap (blurred_if (same x y)) (own-forget f x y) ∙ blurred_twice (same x y) (node f y).own ∙ sym (own-forget f x y))

  forget_across : (f : Forest P) (x y : NodeName) → forget (forget f x p) y p ≡ forget (forget f y p) x p
  forget_across f x y = equal_by_pages _ _ (forget-bare (forget f x p) y p ∙ forget-bare f x p ∙ sym (forget-bare (forget f y p) x p ∙ forget-bare f y p)) (λ z.
      own-forget (forget f x p) y z ∙ ap (blurred_if (same y z)) (own-forget f x z) ∙ blurred_across (same y z) (same x z) (node f z).own
      ∙ sym (own-forget (forget f y p) x z ∙ ap (blurred_if (same x z)) (own-forget f y z)))

  one_again : (xs : List NodeName) (f : Forest P) (x : NodeName) → x ∈ xs → forgotten xs p (forget f x p) ≡ forgotten xs p f
  one_again [] f x i = absurd i
  one_again (y ∷ ys) f x (inl e) = ap (λ z. forgotten ys p (forget (forget f z p) y p)) e ∙ ap (forgotten ys p) (forget_twice f y)
  one_again (y ∷ ys) f x (inr i) = ap (forgotten ys p) (forget_across f x y) ∙ one_again ys (forget f y p) x i

  pub forgotten_again : (some xs : List NodeName) (f : Forest P) → ((x : NodeName) → x ∈ some → x ∈ xs) → forgotten xs p (forgotten some p f) ≡ forgotten xs p f
  forgotten_again [] xs f among = refl
  forgotten_again (x ∷ some) xs f among = forgotten_again some xs (forget f x p) (λ y i. among y (inr i)) ∙ one_again xs f x (among x (inl refl))

  -- What is forgotten of pages that go isn't seen, be it all of it or some.
  module _ (xs some : List NodeName) (f : Forest P) (c : IsConsistent f) (are : ArePagesOnce f xs) (saved : (x : NodeName) → x ∈ xs → is_unsaved f x ≡ false) (among : (x : NodeName) → x ∈ some → x ∈ xs) where
    like : bare f ≡ bare (forgotten some p f)
    like = sym (forgotten-bare some p f)

    still : IsConsistent (forgotten some p f)
    still = bare-consistent f (forgotten some p f) like c

    pages : ArePagesOnce (forgotten some p f) xs
    pages = like_pages f (forgotten some p f) like xs are

    none : (x : NodeName) → x ∈ xs → is_unsaved (forgotten some p f) x ≡ false
    none x i = like_saved f (forgotten some p f) like x (saved x i)

    pub destroy_some : destroy false xs (forgotten some p f) ≡ destroy false xs f
    destroy_some = sym (destroy-forgets xs (forgotten some p f) still pages none p) ∙ ap (destroy false xs) (forgotten_again some xs f among) ∙ destroy-forgets xs f c are saved p

    pub replace_some : (page : NodeName → P) → settle (replace_pages (with_page page xs) (forgotten some p f)) ≡ settle (replace_pages (with_page page xs) f)
    replace_some page = sym (replace_forgotten page xs (forgotten some p f) still pages none p) ∙ ap (λ g. settle (replace_pages (with_page page xs) g)) (forgotten_again some xs f among) ∙ replace_forgotten page xs f c are saved p

  -- the same where nothing is forgotten in pages of a cache that isn't named
  pub destroy_named : (named : Bool) (xs some : List NodeName) (f : Forest P) → IsConsistent f → ArePagesOnce f xs → (named ≡ true → (x : NodeName) → x ∈ xs → is_unsaved f x ≡ false) → ((x : NodeName) → x ∈ some → (named ≡ true) × (x ∈ xs))
      → destroy false xs (forgotten some p f) ≡ destroy false xs f
  destroy_named true xs some f c are saved among = destroy_some xs some f c are (saved refl) (λ x i. (among x i).1)
  destroy_named false xs [] f c are saved among = refl
  destroy_named false xs (x ∷ some) f c are saved among = absurd (let clash = (among x (inl refl)).0 in cc clash)
