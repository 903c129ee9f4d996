-- Each law as it is proved.
use Rattle.vm_ids.proofs.Forest.Laws.Ranges.{ranges_hold_their_pages, ranges_hold_pages_once, pairs_fill_destinations, pairs_read_sources, pairs_keep_places, extents_are_pages, spans_can_be_copied, pages_have_their_names, pages_are_given}
use Rattle.vm_ids.proofs.forest_laws.ranges.Goals as goal

pub returns-clause-ranges_hold_their_pages : goal.returns-clause-ranges_hold_their_pages
returns-clause-ranges_hold_their_pages g c = ranges_hold_their_pages

pub returns-clause-ranges_hold_pages_once : goal.returns-clause-ranges_hold_pages_once
returns-clause-ranges_hold_pages_once g c = ranges_hold_pages_once

pub returns-clause-pairs_fill_destinations : goal.returns-clause-pairs_fill_destinations
returns-clause-pairs_fill_destinations g c = pairs_fill_destinations

pub returns-clause-pairs_read_sources : goal.returns-clause-pairs_read_sources
returns-clause-pairs_read_sources g c = pairs_read_sources

pub returns-clause-pairs_keep_places : goal.returns-clause-pairs_keep_places
returns-clause-pairs_keep_places g c = pairs_keep_places

pub returns-clause-extents_are_pages : goal.returns-clause-extents_are_pages
returns-clause-extents_are_pages g c = extents_are_pages

pub returns-clause-spans_can_be_copied : goal.returns-clause-spans_can_be_copied
returns-clause-spans_can_be_copied g c = spans_can_be_copied

pub returns-clause-pages_have_their_names : goal.returns-clause-pages_have_their_names
returns-clause-pages_have_their_names g c = pages_have_their_names

pub returns-clause-pages_are_given : goal.returns-clause-pages_are_given
returns-clause-pages_are_given g c = pages_are_given
