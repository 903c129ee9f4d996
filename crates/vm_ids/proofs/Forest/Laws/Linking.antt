-- The laws of detach, link, stub, and of one page of copy and move.
use Rattle.std.proofs.Common.{refl, Bool, cond, Some, ap, ◌∙◌}
use Rattle.vm_ids.specs.Forest.Names.{Working, same}
use Rattle.vm_ids.proofs.Forest.Names.{same_itself, same_apart}
use Rattle.vm_ids.specs.Forest.Reading.{value_of}
use Rattle.vm_ids.specs.Forest.Rules.{stub, copy_page}
use Rattle.vm_ids.specs.Forest.Laws.Linking.{DetachGivesThePage, DetachKeepsConsistency, DetachLeavesFreshNode, DetachKeepsOtherValues, DetachHandsOnTheOldPage, DetachCountsNoCopy, LinkKeepsConsistency, LinkGivesTheValue, LinkKeepsOtherValues, LinkCountsNoCopy, StubKeepsConsistency, StubGivesTheValue, StubKeepsOtherValues, StubComesLast, StubCountsNoCopy, CopyPageKeepsConsistency, CopyPageGivesTheValue, CopyPageKeepsOtherValues, CopyPageCountsNoCopy, MovePageKeepsConsistency, MovePageGivesTheValue, MovePageLeavesZeros, MovePageKeepsOtherValues, MovePageCountsNoCopy}
use Rattle.vm_ids.proofs.Forest.NodesAfter.{node-put, keeps}
use Rattle.vm_ids.proofs.Forest.Owning.{has_value}
use Rattle.vm_ids.proofs.Forest.Counters.{detach-copies, link-copies, stub-copies, copy_page-copies, move_page-copies}
use Rattle.vm_ids.proofs.Forest.OneDetached.{value_by, detach-linked, detach-kept, detach-handed, detach-shaped_but, detach-consistent, detach-value, link-consistent, link-gives, link-keeps, stub-consistent, stub-gives, stub-keeps}
use Rattle.vm_ids.proofs.Forest.OnePage.{copy_page-consistent, copy_page-kept, copy_page-gives, move_page-consistent, move_page-value, move_page-keeps}

module _ {P : Type 0} where
  pub detach_gives_the_page : DetachGivesThePage P
  detach_gives_the_page f c x v is live = detach-value f c x is live v x live ∙ ap (λ (t : Bool). cond t (Some v) (value_of f x)) (same_itself x)

  pub detach_keeps_consistency : DetachKeepsConsistency P
  detach_keeps_consistency f c x v is live = detach-consistent f c x is live v

  pub detach_leaves_fresh_node : DetachLeavesFreshNode P
  detach_leaves_fresh_node f c x is live = detach-shaped_but f c x is live

  pub detach_keeps_other_values : DetachKeepsOtherValues P
  detach_keeps_other_values f c x page is live y apart is_y =
      let r = has_value f c.shaped y is_y in
      value_by f _ y y r.0 c.shaped.linked (detach-linked f c x is live page) r.1 (detach-kept f c x is live page y r.0 apart r.1)

  pub detach_hands_on_the_old_page : DetachHandsOnTheOldPage P
  detach_hands_on_the_old_page f c x page is live children =
      let r = has_value f c.shaped x is in
      value_by f _ x (Working _) r.0 c.shaped.linked (detach-linked f c x is live page) r.1 (detach-handed f c x is live page r.0 children r.1)

  pub detach_counts_no_copy : DetachCountsNoCopy P
  detach_counts_no_copy f x page = detach-copies f x page

  pub link_keeps_consistency : LinkKeepsConsistency P
  link_keeps_consistency f d s but pages = link-consistent f d s but pages

  pub link_gives_the_value : LinkGivesTheValue P
  link_gives_the_value f d s but pages = link-gives f d s but pages

  pub link_keeps_other_values : LinkKeepsOtherValues P
  link_keeps_other_values f d s but pages y apart is = link-keeps f d s but pages y apart is

  pub link_counts_no_copy : LinkCountsNoCopy P
  link_counts_no_copy f d s = link-copies f d s

  pub stub_keeps_consistency : StubKeepsConsistency P
  stub_keeps_consistency f d s but pages = stub-consistent f d s but pages

  pub stub_gives_the_value : StubGivesTheValue P
  stub_gives_the_value f d s but pages = stub-gives f d s but pages

  pub stub_keeps_other_values : StubKeepsOtherValues P
  stub_keeps_other_values f d s but pages y apart is = stub-keeps f d s but pages y apart is

  pub stub_comes_last : StubComesLast P
  unfolding stub
  stub_comes_last f d s = keeps (λ n. n.stubs) _ d _ refl s ∙ ap (λ n. n.stubs) (node-put f s _)

  pub stub_counts_no_copy : StubCountsNoCopy P
  stub_counts_no_copy f d s = stub-copies f d s

  pub copy_page_keeps_consistency : CopyPageKeepsConsistency P
  copy_page_keeps_consistency is_small f d s c pages = copy_page-consistent f c d s pages is_small

  pub copy_page_gives_the_value : CopyPageGivesTheValue P
  copy_page_gives_the_value is_small f d s c pages = copy_page-gives f c d s pages is_small

  pub copy_page_keeps_other_values : CopyPageKeepsOtherValues P
  copy_page_keeps_other_values is_small f d s c pages y apart is =
      let r = has_value f c.shaped y is in
      value_by f (copy_page is_small f d s) y y r.0 c.shaped.linked (copy_page-consistent f c d s pages is_small).shaped.linked r.1 (copy_page-kept f c d s pages is_small y r.0 apart r.1)

  pub copy_page_counts_no_copy : CopyPageCountsNoCopy P
  copy_page_counts_no_copy is_small f d s = copy_page-copies is_small f d s

  pub move_page_keeps_consistency : MovePageKeepsConsistency P
  move_page_keeps_consistency f d s zeros c pages = move_page-consistent f c d s pages zeros

  pub move_page_gives_the_value : MovePageGivesTheValue P
  move_page_gives_the_value f d s zeros c pages = move_page-value f c d s pages zeros d pages.live_destination
      ∙ ap (λ (t : Bool). cond t (Some zeros) (cond (same d d) (value_of f s) (value_of f d))) (same_apart d s pages.apart)
      ∙ ap (λ (t : Bool). cond t (value_of f s) (value_of f d)) (same_itself d)

  pub move_page_leaves_zeros : MovePageLeavesZeros P
  move_page_leaves_zeros f d s zeros c pages = move_page-value f c d s pages zeros s pages.live_source
      ∙ ap (λ (t : Bool). cond t (Some zeros) (cond (same s d) (value_of f s) (value_of f s))) (same_itself s)

  pub move_page_keeps_other_values : MovePageKeepsOtherValues P
  move_page_keeps_other_values f d s zeros c pages y a b is = move_page-keeps f c d s pages zeros y a b is

  pub move_page_counts_no_copy : MovePageCountsNoCopy P
  move_page_counts_no_copy f d s zeros = move_page-copies f d s zeros
