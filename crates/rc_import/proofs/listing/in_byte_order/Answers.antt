use Rattle.std.proofs.Common.{◌∙◌, subst, rules}
use Rattle.std.specs.Cmp.Lexicographic.{nat_list_cmp_total}
use Rattle.std.specs.List.Sorted.{IsPermutation}
use Rattle.std.proofs.lemmas.List.Sorted.{answers_always, ranks_by}
use Rattle.rc_import.specs.Names.{is_before}
use Rattle.rc_import.proofs.Sorted.{ordered}
use Rattle.rc_import.proofs.listing.in_byte_order.Goals as goal

pub returns : goal.returns
returns c = c.from_vec.ensures
    ∙ ordered c.args.names c.sort_by.new.self.items
    (subst (λ names. IsPermutation names c.sort_by.new.self.items) c.into_vec-names.ensures c.sort_by.ensures.permutation)
    (c.in_ok-sort_by.ensures.sorted is_before (ranks_by nat_list_cmp_total (λ name. name)) (answers_always _ _ _ (λ f a r next k. search rules)))
