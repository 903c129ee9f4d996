-- What one step changes of the caches that are kept.
use Rattle.std.proofs.Common.{◌≡◌, ◌≢◌, ◌==◌, ℕ, Bool, true, false, cond, Option, Some, None, refl, sym, ap, ◌∙◌}
use Rattle.std.specs.Prelude.{is_some, option_map, option_and_then}
use Rattle.std.proofs.lemmas.Bool.{eq-eqb, ne_eqb}
use Rattle.interface_callers.proofs.Words.{CacheId}
use Rattle.seg_manager.specs.Linked.{Linked, changed_at, end_set, link_of, with_after, with_before}
use Rattle.seg_manager.specs.Ring.{after_of, before_of, kept_of}
use Rattle.seg_manager.specs.declared.links.Link.{Link}

-- What one step changes

-- what is read of a link that doesn't change there
changed_same : {X : Type 0} (g : Option Link → X) (change : Link → Link) → ((x : Link) → g (Some (change x)) ≡ g (Some x)) → (p : Option CacheId) (n : ℕ) (o : Option Link) → g (changed_at change p n o) ≡ g o
changed_same g change same None n o = refl
changed_same g change same (Some c) n o = by (c.0 == n) o
  where
    by : (b : Bool) (o : Option Link) → g (cond b (option_map change o) o) ≡ g o
    by false o = refl
    by true None = refl
    by true (Some x) = same x

named_apart : (c d : CacheId) → Some d ≢ Some c → c.0 ≢ d.0
named_apart c d apart e = apart (ap (λ (n : ℕ). Some (record { 0 = n })) (sym e))

changed_other : (change : Link → Link) (p : Option CacheId) (d : CacheId) (o : Option Link) → Some d ≢ p → changed_at change p d.0 o ≡ o
changed_other change None d o apart = refl
changed_other change (Some c) d o apart = ap (λ (b : Bool). cond b (option_map change o) o) (ne_eqb c.0 d.0 (named_apart c d apart))

changed_here : (change : Link → Link) (p : Option CacheId) (d : CacheId) (o : Option Link) → Some d ≡ p → changed_at change p d.0 o ≡ option_map change o
changed_here change p d o e =
    ap (λ (x : Option CacheId). changed_at change x d.0 o) (sym e) ∙ ap (λ (b : Bool). cond b (option_map change o) o) (eq-eqb d.0 d.0 refl)

end_other : (p : Option CacheId) (q was : Option CacheId) → None ≢ p → end_set p q was ≡ was
end_other None q was apart = absurd (apart refl)
end_other (Some c) q was apart = refl

-- a cache that is linked, or none
abbrev pub IsThere : Linked → Option CacheId → Type 0
IsThere l None = Unit {0}
IsThere l (Some d) = is_some (link_of l d.0) ≡ true

pub there_after : (l : Linked) (s : Option CacheId) (c : CacheId) → after_of l s ≡ Some c → IsThere l s
there_after l None c e = tt
there_after l (Some d) c e = by (link_of l d.0) e
  where
    by : (o : Option Link) → option_and_then (λ (x : Link). x.after) o ≡ Some c → is_some o ≡ true
    by None e = absurd (cc e)
    by (Some x) e = refl

pub there_before : (l : Linked) (t : Option CacheId) (c : CacheId) → before_of l t ≡ Some c → IsThere l t
there_before l None c e = tt
there_before l (Some d) c e = by (link_of l d.0) e
  where
    by : (o : Option Link) → option_and_then (λ (x : Link). x.before) o ≡ Some c → is_some o ≡ true
    by None e = absurd (cc e)
    by (Some x) e = refl

pub there_by : (l m : Linked) (s : Option CacheId) → ((d : CacheId) → s ≡ Some d → is_some (link_of m d.0) ≡ is_some (link_of l d.0)) → IsThere l s → IsThere m s
there_by l m None same there = tt
there_by l m (Some d) same there = same d refl ∙ there

-- another one comes after a cache
module _ (l m : Linked) (p q : Option CacheId) (links : (n : ℕ) → link_of m n ≡ changed_at (with_after q) p n (link_of l n)) (first : m.first ≡ end_set p q l.first) (last : m.last ≡ l.last) where
  pub a_before : (t : Option CacheId) → before_of m t ≡ before_of l t
  a_before None = last
  a_before (Some d) =
      ap (option_and_then (λ (x : Link). x.before)) (links d.0) ∙ changed_same (option_and_then (λ (x : Link). x.before)) (with_after q) (λ x. refl) p d.0 (link_of l d.0)

  pub a_kept : (n : ℕ) → kept_of m n ≡ kept_of l n
  a_kept n = ap (option_map (λ (x : Link). x.kept)) (links n) ∙ changed_same (option_map (λ (x : Link). x.kept)) (with_after q) (λ x. refl) p n (link_of l n)

  pub a_found : (n : ℕ) → is_some (link_of m n) ≡ is_some (link_of l n)
  a_found n = ap is_some (links n) ∙ changed_same is_some (with_after q) (λ x. refl) p n (link_of l n)

  pub a_other : (s : Option CacheId) → s ≢ p → after_of m s ≡ after_of l s
  a_other None apart = first ∙ end_other p q l.first apart
  a_other (Some d) apart = ap (option_and_then (λ (x : Link). x.after)) (links d.0 ∙ changed_other (with_after q) p d (link_of l d.0) apart)

  pub a_here : (s : Option CacheId) → s ≡ p → IsThere l s → after_of m s ≡ q
  a_here None e there = first ∙ ap (λ (x : Option CacheId). end_set x q l.first) (sym e)
  a_here (Some d) e there = ap (option_and_then (λ (x : Link). x.after)) (links d.0 ∙ changed_here (with_after q) p d (link_of l d.0) e) ∙ by (link_of l d.0) there
    where
      by : (o : Option Link) → is_some o ≡ true → option_and_then (λ (x : Link). x.after) (option_map (with_after q) o) ≡ q
      by None e = absurd (cc e)
      by (Some x) e = refl

-- another one comes before it
module _ (l m : Linked) (p q : Option CacheId) (links : (n : ℕ) → link_of m n ≡ changed_at (with_before q) p n (link_of l n)) (last : m.last ≡ end_set p q l.last) (first : m.first ≡ l.first) where
  pub b_after : (t : Option CacheId) → after_of m t ≡ after_of l t
  b_after None = first
  b_after (Some d) =
      ap (option_and_then (λ (x : Link). x.after)) (links d.0) ∙ changed_same (option_and_then (λ (x : Link). x.after)) (with_before q) (λ x. refl) p d.0 (link_of l d.0)

  pub b_kept : (n : ℕ) → kept_of m n ≡ kept_of l n
  b_kept n = ap (option_map (λ (x : Link). x.kept)) (links n) ∙ changed_same (option_map (λ (x : Link). x.kept)) (with_before q) (λ x. refl) p n (link_of l n)

  pub b_found : (n : ℕ) → is_some (link_of m n) ≡ is_some (link_of l n)
  b_found n = ap is_some (links n) ∙ changed_same is_some (with_before q) (λ x. refl) p n (link_of l n)

  pub b_other : (s : Option CacheId) → s ≢ p → before_of m s ≡ before_of l s
  b_other None apart = last ∙ end_other p q l.last apart
  b_other (Some d) apart = ap (option_and_then (λ (x : Link). x.before)) (links d.0 ∙ changed_other (with_before q) p d (link_of l d.0) apart)

  pub b_here : (s : Option CacheId) → s ≡ p → IsThere l s → before_of m s ≡ q
  b_here None e there = last ∙ ap (λ (x : Option CacheId). end_set x q l.last) (sym e)
  b_here (Some d) e there = ap (option_and_then (λ (x : Link). x.before)) (links d.0 ∙ changed_here (with_before q) p d (link_of l d.0) e) ∙ by (link_of l d.0) there
    where
      by : (o : Option Link) → is_some o ≡ true → option_and_then (λ (x : Link). x.before) (option_map (with_before q) o) ≡ q
      by None e = absurd (cc e)
      by (Some x) e = refl

-- the link of one cache is another one, or none
module _ (l m : Linked) (c : CacheId) (o : Option Link) (links : (n : ℕ) → link_of m n ≡ cond (c.0 == n) o (link_of l n)) (first : m.first ≡ l.first) (last : m.last ≡ l.last) where
  pub link_other : (n : ℕ) → c.0 ≢ n → link_of m n ≡ link_of l n
  link_other n apart = links n ∙ ap (λ (b : Bool). cond b o (link_of l n)) (ne_eqb c.0 n apart)

  pub link_here : link_of m c.0 ≡ o
  link_here = links c.0 ∙ ap (λ (b : Bool). cond b o (link_of l c.0)) (eq-eqb c.0 c.0 refl)

  pub after_off : (s : Option CacheId) → s ≢ Some c → after_of m s ≡ after_of l s
  after_off None apart = first
  after_off (Some d) apart = ap (option_and_then (λ (x : Link). x.after)) (link_other d.0 (named_apart c d apart))

  pub before_off : (s : Option CacheId) → s ≢ Some c → before_of m s ≡ before_of l s
  before_off None apart = last
  before_off (Some d) apart = ap (option_and_then (λ (x : Link). x.before)) (link_other d.0 (named_apart c d apart))

  pub there_off : (s : Option CacheId) → s ≢ Some c → IsThere l s → IsThere m s
  there_off s apart = there_by l m s (λ d is. ap is_some (link_other d.0 (named_apart c d (λ e. apart (is ∙ e)))))
