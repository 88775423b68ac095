use Rattle.std.proofs.Common.{inl, inr, refl}
use Rattle.copy_jobs.proofs.copying.make_copy.Goals as goal

pub returns-in-Err-copy_of-clause-err : goal.returns-in-Err-copy_of-clause-err
returns-in-Err-copy_of-clause-err g c = inr (c.in-Ok.source, c.in-Ok.ensures.ok, inl c.in-Err-copy_of.ensures.err)

pub returns-in-Ok-with_rest-clause-ok : goal.returns-in-Ok-with_rest-clause-ok
returns-in-Ok-with_rest-clause-ok g c = record {
  source = c.in-Ok.source;
  is_source = c.in-Ok.ensures.ok;
  copy = c.in-Ok-copy_of.copy;
  is_copy = c.in-Ok-copy_of.ensures.ok;
  after = c.in-Ok-with_rest.ensures.ok;
  whole = refl;
}

pub returns-clause-err : goal.returns-clause-err
returns-clause-err g c =
    let own = c.in-Err-with_rest.ensures.err in
    inr (c.in-Ok.source, c.in-Ok.ensures.ok, inr (record { copy = c.in-Ok-copy_of.copy; is_copy = c.in-Ok-copy_of.ensures.ok; one = own.0; is_one = own.1; stops = own.2 }))
