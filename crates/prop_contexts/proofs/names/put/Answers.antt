use Rattle.std.proofs.Common.{◌≡◌, ap, ◌∙◌, ℕ, List, Option}
use Rattle.std.specs.Map.{lookup}
use Rattle.std.specs.Str.{bytes_eq}
use Rattle.indexmap.specs.IndexMap.{insert_entry}
use Rattle.init_machine.specs.declared.policy.Context.{Context}
use Rattle.prop_contexts.specs.NameLines.{has_name}
use Rattle.prop_contexts.proofs.Digests.{names_put}
use Rattle.prop_contexts.proofs.Entries.{entry_lines, put_fresh, put_added}
use Rattle.prop_contexts.proofs.names.put.Goals as goal

-- what `insert` tells of the key, of the name
old_at : (entries : List (List ℕ × Context)) (key name : List ℕ) (old : Option Context) → key ≡ name
    → old ≡ lookup (λ k. bytes_eq key k) entries → old ≡ lookup (λ k. bytes_eq name k) entries
old_at entries key name old is there = there ∙ ap (λ (k : List ℕ). lookup (bytes_eq k) entries) is

put_at : (entries new : List (List ℕ × Context)) (key name : List ℕ) (context : Context) → key ≡ name
    → new ≡ insert_entry (λ x y. bytes_eq x y) entries key context → new ≡ insert_entry (λ x y. bytes_eq x y) entries name context
put_at entries new key name context is there = there ∙ ap (λ (k : List ℕ). insert_entry bytes_eq entries k context) is

pub returns-clause-fresh : goal.returns-clause-fresh
returns-clause-fresh c =
    put_fresh c.args.contexts.now.entries c.args.name.items c.in_ok-insert.field-0 c.is_none.result
    (old_at c.args.contexts.now.entries c.from_vec.result c.args.name.items c.in_ok-insert.field-0 c.from_vec.ensures c.in_ok-insert.ensures.old) c.is_none.ensures

pub returns-clause-added : goal.returns-clause-added
returns-clause-added c =
    put_added c.args.contexts.now.entries c.insert.new.self.entries c.args.name.items c.args.context c.in_ok-insert.field-0 c.is_none.result
    (old_at c.args.contexts.now.entries c.from_vec.result c.args.name.items c.in_ok-insert.field-0 c.from_vec.ensures c.in_ok-insert.ensures.old) c.is_none.ensures
    (put_at c.args.contexts.now.entries c.insert.new.self.entries c.from_vec.result c.args.name.items c.args.context c.from_vec.ensures c.in_ok-insert.ensures.entries)

pub returns-clause-names : goal.returns-clause-names
returns-clause-names c other =
    ap (λ entries. has_name (entry_lines entries) other)
    (put_at c.args.contexts.now.entries c.insert.new.self.entries c.from_vec.result c.args.name.items c.args.context c.from_vec.ensures c.in_ok-insert.ensures.entries)
    ∙ names_put c.args.contexts.now.entries c.args.name.items c.args.context other
