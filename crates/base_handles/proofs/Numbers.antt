-- The number of a record by the case of its handle.
use mathlib.Core.Path.{◌≡◌, sym, ap}
use Rattle.base_handles.specs.declared.RecordHandle.{RecordHandle}
use Rattle.base_handles.specs.declared.RecordHandle.TheVariants.{«Type», Constant, Override, Global, Expression}
use Rattle.base_handles.specs.declared.TypeHandle.{TypeHandle}
use Rattle.base_handles.specs.declared.ConstantHandle.{ConstantHandle}
use Rattle.base_handles.specs.declared.OverrideHandle.{OverrideHandle}
use Rattle.base_handles.specs.declared.GlobalHandle.{GlobalHandle}
use Rattle.base_handles.specs.declared.ExpressionHandle.{ExpressionHandle}
use Rattle.base_handles.specs.Handles.{number_in}

pub of_type : (h : RecordHandle) (x : TypeHandle) → h ≡ «Type» x → x.0 ≡ number_in h
of_type h x e = ap number_in (sym e)

pub of_constant : (h : RecordHandle) (x : ConstantHandle) → h ≡ Constant x → x.0 ≡ number_in h
of_constant h x e = ap number_in (sym e)

pub of_override : (h : RecordHandle) (x : OverrideHandle) → h ≡ Override x → x.0 ≡ number_in h
of_override h x e = ap number_in (sym e)

pub of_global : (h : RecordHandle) (x : GlobalHandle) → h ≡ Global x → x.0 ≡ number_in h
of_global h x e = ap number_in (sym e)

pub of_expression : (h : RecordHandle) (x : ExpressionHandle) → h ≡ Expression x → x.0 ≡ number_in h
of_expression h x e = ap number_in (sym e)
