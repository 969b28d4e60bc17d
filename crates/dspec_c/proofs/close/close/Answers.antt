use Rattle.std.proofs.Common.{refl}
use Rattle.dspec_c.specs.Words.{EnabledRows, pairs_of, IsSession, Session}
use Rattle.dspec_c.proofs.EndingPlaces.{as_many, session_is}
use Rattle.dspec_c.proofs.close.close.Goals as goal

pub finish-requires : goal.finish-requires
finish-requires c =
    let schema = c.requires.ending.0 in
    record {
      session = (
        schema,
        session_is c.args.shared schema _ c.args.consumer (record { shared = c.args.shared; cpus = c.gather-cpus.result.0; consumer = c.args.consumer }) c.requires.ending.1
            refl refl (c.gather-cpus.ensures.home c.args.shared schema (pairs_of c.args.consumer) c.requires.ending.1.each) (as_many _ _ c.gather-cpus.ensures.all),
      );
    }

pub returns-clause-closed : goal.returns-clause-closed
returns-clause-closed c =
    let schema = c.requires.ending.0 in
    let session : Session EnabledRows = record { shared = c.args.shared; cpus = c.gather-cpus.result.0; consumer = c.args.consumer } in
    let is : IsSession schema session = session_is c.args.shared schema _ c.args.consumer session c.requires.ending.1
    refl refl (c.gather-cpus.ensures.home c.args.shared schema (pairs_of c.args.consumer) c.requires.ending.1.each) (as_many _ _ c.gather-cpus.ensures.all) in
    record {
      schema = schema;
      session = session;
      is = is;
      shares = refl;
      all = c.gather-cpus.ensures.all;
      theirs = refl;
      promised = c.finish.ensures.promised schema is;
    }
