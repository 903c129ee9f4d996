-- What a change of links leaves in each column of the links.
use Rattle.std.proofs.Common.{◌≡◌, Option, Some, None, refl, sym, ap, ◌∙◌, subst, inl, inr}
use Rattle.vm_ids.specs.declared.numbers.NodeId.{NodeId}
use Rattle.local_cache.specs.declared.links.Links.{Links}
use Rattle.local_cache.specs.Arena.{Arena, cell, with_links}
use Rattle.local_cache.specs.Changes.{Like, Relinked}
use Rattle.local_cache.proofs.Changes.SameNodes.{relinked, relinked_itself, links-with_links, links-with_links_other, id_cases}
use Rattle.page_stubs.specs.Threading.{IsHeldIf, with_behind, with_before}

pub held_if : (a b : Arena) (o : Option NodeId) → Like a b → IsHeldIf a o → IsHeldIf b o
held_if a b None like h = tt
held_if a b (Some n) like h = like.held n ∙ h

pub behind_relinked : (a : Arena) (o to : Option NodeId) → IsHeldIf a o → Relinked a (with_behind a o to)
behind_relinked a None to h = relinked_itself a
behind_relinked a (Some n) to h = relinked a n _ h

pub before_relinked : (a : Arena) (o to : Option NodeId) → IsHeldIf a o → Relinked a (with_before a o to)
before_relinked a None to h = relinked_itself a
before_relinked a (Some n) to h = relinked a n _ h

-- a column that the new links of a node leave
pub links-col : {A : Type 0} (col : Links → A) (a : Arena) (n : NodeId) (l : Links) (m : NodeId) → col l ≡ col (cell a n).links → col (cell (with_links a n l) m).links ≡ col (cell a m).links
links-col col a n l m same = elim (id_cases m n) [
  | inl e ↦ ap (λ k. col (cell (with_links a n l) k).links) e ∙ ap col (links-with_links a n l) ∙ same ∙ ap (λ k. col (cell a k).links) (sym e)
  | inr ne ↦ ap col (links-with_links_other a n m l ne)
]

pub behind-col : {A : Type 0} (col : Links → A) → ((l : Links) (o : Option NodeId) → col (record l { behind = o }) ≡ col l) → (a : Arena) (o to : Option NodeId) (m : NodeId) → col (cell (with_behind a o to) m).links ≡ col (cell a m).links
behind-col col same a None to m = refl
behind-col col same a (Some n) to m = links-col col a n _ m (same (cell a n).links to)

pub before-col : {A : Type 0} (col : Links → A) → ((l : Links) (o : Option NodeId) → col (record l { before = o }) ≡ col l) → (a : Arena) (o to : Option NodeId) (m : NodeId) → col (cell (with_before a o to) m).links ≡ col (cell a m).links
before-col col same a None to m = refl
before-col col same a (Some n) to m = links-col col a n _ m (same (cell a n).links to)

-- the links of the node that is set, and of all others
pub links-behind : (a : Arena) (o to : Option NodeId) (m : NodeId) → o ≡ Some m → (cell (with_behind a o to) m).links ≡ record (cell a m).links { behind = to }
links-behind a None to m e = absurd (cc e)
links-behind a (Some n) to m e = let same : n ≡ m = cc e in subst (λ k. (cell (with_behind a (Some n) to) k).links ≡ record (cell a k).links { behind = to }) same (links-with_links a n _)

pub links-behind_other : (a : Arena) (o to : Option NodeId) (m : NodeId) → (o ≡ Some m → ⊥) → (cell (with_behind a o to) m).links ≡ (cell a m).links
links-behind_other a None to m ne = refl
links-behind_other a (Some n) to m ne = links-with_links_other a n m _ (λ e. ne (ap Some (sym e)))

pub links-before : (a : Arena) (o to : Option NodeId) (m : NodeId) → o ≡ Some m → (cell (with_before a o to) m).links ≡ record (cell a m).links { before = to }
links-before a None to m e = absurd (cc e)
links-before a (Some n) to m e = let same : n ≡ m = cc e in subst (λ k. (cell (with_before a (Some n) to) k).links ≡ record (cell a k).links { before = to }) same (links-with_links a n _)

pub links-before_other : (a : Arena) (o to : Option NodeId) (m : NodeId) → (o ≡ Some m → ⊥) → (cell (with_before a o to) m).links ≡ (cell a m).links
links-before_other a None to m ne = refl
links-before_other a (Some n) to m ne = links-with_links_other a n m _ (λ e. ne (ap Some (sym e)))

-- the column that is set
pub behind_at : (a : Arena) (o to : Option NodeId) (m : NodeId) → o ≡ Some m → (cell (with_behind a o to) m).links.behind ≡ to
behind_at a o to m e = ap (λ l. l.behind) (links-behind a o to m e)

pub behind_other : (a : Arena) (o to : Option NodeId) (m : NodeId) → (o ≡ Some m → ⊥) → (cell (with_behind a o to) m).links.behind ≡ (cell a m).links.behind
behind_other a o to m ne = ap (λ l. l.behind) (links-behind_other a o to m ne)

pub before_at : (a : Arena) (o to : Option NodeId) (m : NodeId) → o ≡ Some m → (cell (with_before a o to) m).links.before ≡ to
before_at a o to m e = ap (λ l. l.before) (links-before a o to m e)

pub before_other : (a : Arena) (o to : Option NodeId) (m : NodeId) → (o ≡ Some m → ⊥) → (cell (with_before a o to) m).links.before ≡ (cell a m).links.before
before_other a o to m ne = ap (λ l. l.before) (links-before_other a o to m ne)
