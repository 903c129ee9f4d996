use Rattle.std.proofs.Common.{arith}
use Rattle.stretches.proofs.Leaves.Halving.{front_index, front_length, halved_count, halved_entries, rest_index, rest_length}
use Rattle.stretches.proofs.directory.Directory.make_room.Goals as goal

pub returns-then-spot-le-HALF : goal.returns-then-spot-le-HALF
returns-then-spot-le-HALF g c =
    let ls = c.args.self.now.lists in
    let new = c.halve.new.self.lists in
    let j = c.args.spot.leaf in
    let count = halved_count ls new j c.requires.leaf c.halve.ensures.few c.halve.ensures.lists in
    let length_is = front_length ls new j c.requires.leaf c.halve.ensures.few c.halve.ensures.lists in
    record {
      entries = halved_entries ls new j c.requires.leaf c.halve.ensures.few c.halve.ensures.lists;
      leaf = omega (arith, count, c.requires.leaf);
      at = omega (arith, length_is, c.if-spot-le-HALF.true);
      room = omega (arith, length_is);
      index = front_index ls new j c.requires.leaf c.halve.ensures.few c.halve.ensures.lists c.args.spot.at;
      places = c.halve.ensures.places;
    }

pub returns-else-spot-le-HALF : goal.returns-else-spot-le-HALF
returns-else-spot-le-HALF g c =
    let ls = c.args.self.now.lists in
    let new = c.halve.new.self.lists in
    let j = c.args.spot.leaf in
    let count = halved_count ls new j c.requires.leaf c.halve.ensures.few c.halve.ensures.lists in
    let length_is = rest_length ls new j c.requires.leaf c.halve.ensures.few c.halve.ensures.lists in
    record {
      entries = halved_entries ls new j c.requires.leaf c.halve.ensures.few c.halve.ensures.lists;
      leaf = omega (arith, count, c.requires.leaf);
      at = omega (arith, length_is, c.requires.at, c.halve.ensures.few);
      room = omega (arith, length_is);
      index = rest_index ls new j c.requires.leaf c.halve.ensures.few c.halve.ensures.lists c.args.spot.at (omega (arith, c.if-spot-le-HALF.false));
      places = c.halve.ensures.places;
    }
