use Rattle.std.proofs.Common.{◌<◌, length, sym, ◌∙◌, arith}
use Rattle.prop_dispatch.proofs.Lists.{read_at}
use Rattle.prop_dispatch.proofs.Serving.{given_ok, may_set, serves_next}
use Rattle.prop_dispatch.proofs.worker.Worker.serve.Goals as goal

pub serve-served-requires : goal.serve-served-requires
serve-served-requires g c =
    let seats = c.args.self.now.seats.items in
    let within : c.args.item.session < length seats = omega (arith, c.if-place-len.false, c.len.ensures, c.args.self.now.seats.ok.0) in
    record {
      reader = may_set g.N.AreaName.area c.requires.1.0 c.requires.1.1 c.requires.0 c.args.self.now.service seats c.args.item.session c.index_mut-seat.result.now
          (c.requires.1.2 c.if-self.false) (read_at seats c.args.item.session c.index_mut-seat.result.now _ within c.index_mut-seat.ensures.value);
    }

pub returns : goal.returns
returns g c got old sessions before fine =
    let seats = c.args.self.now.seats.items in
    let within : c.args.item.session < length seats = omega (arith, c.if-place-len.false, c.len.ensures, c.args.self.now.seats.ok.0) in
    serves_next g.N.AreaName.area old sessions got c.args.item c.args.self.now.service c.serve-served.new.service seats c.index_mut-seat.result.now c.serve-served.new.self
    (before c.if-self.false) (read_at seats c.args.item.session c.index_mut-seat.result.now _ within c.index_mut-seat.ensures.value)
    (given_ok c.serve-served.result _ (sym c.is_err-self.ensures.value ∙ fine) c.serve-served.ensures.served)
