-- Chains and counts, which are those of the plain forest.
use Rattle.std.proofs.Common.{◌≡◌, ℕ, ◌<◌, ◌≤◌, true, false, [], ◌∷◌, length, Some, None, refl, arith}
use Rattle.std.proofs.lemmas.Bool.Decides.{nat_tests}
use Rattle.vm_ids.specs.Forest.Commands.{page_name}
use Rattle.vm_ids.specs.declared.numbers.CacheId.{CacheId}
use Rattle.vm_ids.specs.declared.refusal.Refusal.TheVariants as refusals
use Rattle.vm_ids.specs.declared.reply.Reply.TheVariants as replies
use Rattle.vm_model.specs.Answering.{chain_answer, passes_end, refuse, reply, unless, with_some}
use Rattle.vm_model.specs.Machine.{Cache, Machine, cache_of}
use Rattle.vm_model.specs.PageForest.{plain_forest}
use Rattle.vm_model.proofs.Forests.Plain.{plain_chain}

module _ (m : Machine) (cache : CacheId) (page : ℕ) where
  pub chain_none : cache_of m cache.0 ≡ None → chain_answer m (plain_forest m) cache page ≡ refuse m refusals.NoCache
  unfolding chain_answer with_some
  chain_none e = rw e refl

  past_end : (c : Cache) → length c.pages ≤ page → passes_end c page 1 ≡ true
  past_end c past = grind (arith, nat_tests)

  inside_end : (c : Cache) → page < length c.pages → passes_end c page 1 ≡ false
  inside_end c less = grind (arith, nat_tests)

  pub chain_past : (c : Cache) → cache_of m cache.0 ≡ Some c → length c.pages ≤ page → chain_answer m (plain_forest m) cache page ≡ refuse m refusals.OutOfCache
  unfolding chain_answer with_some unless
  chain_past c e past = let end = past_end c past in rw (e, end) refl

  pub chain_row : (c : Cache) → cache_of m cache.0 ≡ Some c → page < length c.pages → chain_answer m (plain_forest m) cache page ≡ reply (replies.Chain (record { name = page_name cache page; children = 0 } ∷ [])) m
  unfolding chain_answer with_some unless
  chain_row c e less =
      let chain = plain_chain m cache page c e less in
      let end = inside_end c less in
      rw (e, end, chain) refl
