use Rattle.std.proofs.Common.{◌∙◌, inr, refl, sym, [], ◌∷◌}
use Rattle.std.specs.Str.{is_utf8, chars}
use lib.Utf8.{encode}
use Rattle.hex.specs.Hex.{encode_with}
use Rattle.init_base.specs.Quoted.{quoted}
use Rattle.init_machine.specs.Typed.{is_typed}
use Rattle.persist_file.specs.Store.{entry}
use Rattle.persist_file.specs.declared.kind.SavedKind.TheVariants as kind
use Rattle.persist_file.specs.declared.version.Version.TheVariants.{First, Second}
use Rattle.persist_file.specs.Examples.{first_pair, second_pair}
use Rattle.persist_file.proofs.Determined.{not_both, store_or_unfit, store_read, unfit_read}
use Rattle.persist_file.proofs.laws.each_text_has_one_reading.Goals as goal

pub returns-clause-pairs : goal.returns-clause-pairs
returns-clause-pairs c bytes pairs others store other = cc (sym (store_read bytes pairs store) ∙ store_read bytes others other)

pub returns-clause-line : goal.returns-clause-line
returns-clause-line c bytes line other cause why unfit also = cc (sym (unfit_read bytes line cause unfit) ∙ unfit_read bytes other why also)

pub returns-clause-cause : goal.returns-clause-cause
returns-clause-cause c bytes line other cause why unfit also = cc (sym (unfit_read bytes line cause unfit) ∙ unfit_read bytes other why also)

pub returns-clause-not_both : goal.returns-clause-not_both
returns-clause-not_both c = not_both

pub returns-clause-one_of_both : goal.returns-clause-one_of_both
returns-clause-one_of_both c = store_or_unfit

pub returns-clause-example : goal.returns-clause-example
unfolding is_utf8 chars encode encode_with is_typed
returns-clause-example c = inr (record {
  version = First;
  entries = entry first_pair kind.Any ∷ entry second_pair kind.Any ∷ [];
  are_fit = refl;
  are = refl;
  text = refl;
})

pub returns-clause-typed_example : goal.returns-clause-typed_example
unfolding is_utf8 chars encode quoted is_typed
returns-clause-typed_example c = inr (record {
  version = Second;
  entries = entry first_pair kind.Int ∷ entry second_pair kind.Any ∷ [];
  are_fit = refl;
  are = refl;
  text = refl;
})
