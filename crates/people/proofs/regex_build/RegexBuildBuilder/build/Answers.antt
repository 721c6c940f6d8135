use Rattle.std.proofs.Common.{◌∙◌, true, sym, ap}
use Rattle.regex.specs.Patterns.{Config}
use Rattle.regex.specs.Views.{builder_config, builder_source}
use Rattle.regex.specs.declared.builder.RegexBuilder.{RegexBuilder}
use Rattle.people.proofs.BuildLemmas.{options_of, size_refused, syntax_refused, too_large}
use Rattle.people.proofs.regex_build.RegexBuildBuilder.build.Goals as goal

abbrev read_options : RegexBuilder → Config
read_options b = record (builder_config b) { utf8 = true }

pub returns-in-Err-Syntax-clause-syntax : goal.returns-in-Err-Syntax-clause-syntax
returns-in-Err-Syntax-clause-syntax c = λ _.
    let made : RegexBuilder = c.case_insensitive.result in
    syntax_refused c.args.fold c.args.text.now (builder_source made) (read_options made)
    c.in-Err-Syntax.field-0
    c.in-Err-Syntax.field-0-0 c.in-Err-Syntax.field-0-is
    (ap builder_source c.case_insensitive.ensures ∙ c.new.ensures.source)
    (options_of made c.new.result c.args.fold c.case_insensitive.ensures c.new.ensures.config)
    c.in-Err-Syntax.ensures.by_grammar c.in-Err-Syntax.ensures.kind

pub returns-in-Err-CompiledTooBig-clause-builds : goal.returns-in-Err-CompiledTooBig-clause-builds
returns-in-Err-CompiledTooBig-clause-builds c =
    let made : RegexBuilder = c.case_insensitive.result in
    too_large c.args.fold c.args.text.now _ c.args.self.now _
    c.refuse-in-Err-CompiledTooBig.ensures.error
    (sym c.is_sized.ensures ∙ c.if-is_sized.false)
    (size_refused c.args.fold c.args.text.now (builder_source made) (read_options made)
    c.in-Err-CompiledTooBig.field-0
    c.in-Err-CompiledTooBig.field-0-is
    (ap builder_source c.case_insensitive.ensures ∙ c.new.ensures.source)
    (options_of made c.new.result c.args.fold c.case_insensitive.ensures c.new.ensures.config)
    c.in-Err-CompiledTooBig.ensures.kind)
    c.refuse-in-Err-CompiledTooBig.ensures.counted
